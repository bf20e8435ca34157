-- A filed system: what it means, and what a question gathers that goes through its records.
use Rattle.std.proofs.Common.{◌≡◌, ℕ, zero, suc, ◌+◌, List, [], ◌∷◌, length, get_or, Some, None, Ok, Err, Option, sym, refl, ap, ◌∙◌, arith}
use Rattle.std.proofs.lemmas.List.{map-id}
use Rattle.std.proofs.lemmas.Iterator.{YieldsList}
use Rattle.std.proofs.lemmas.Iterator.Consumers.{YieldsList-end}
use Rattle.std.specs.Iterator.{Drains}
use Rattle.std.specs.List.{fold, filter_map, cons_option, last_or}
use Rattle.std.specs.Option.{unwrap_or}
use Rattle.std.specs.Result.{result_unwrap_or}
use mathlib.Core.List.{reverse_aux}
use Rattle.systems.specs.declared.label.Label.{Ghosts}
use Rattle.systems.specs.Meaning.{Bounded}
use Rattle.filing.specs.declared.fault.Cause.{Cause}
use Rattle.filing.specs.declared.filed.Filed.{Filed}
use Rattle.filing.specs.declared.header.Header.{Header}
use Rattle.filing.specs.declared.record.Record.{Record}
use Rattle.filing.specs.Accepted.{meaning_at}
use Rattle.filing.specs.Reading.{then_after, first_records, records_after}
use Rattle.filing.specs.Contents.{Contents, accept, proceed, records_from, labelled_in, objection, meaning_of}
use Rattle.filing.specs.Format.{Entry, entry_at}
use Rattle.filing.specs.Standing.{HeaderFits, header_fits, Stands, standing, accepted_stands, accepted_meaning, accepted_bounded}

-- ---- what is gathered from records as they come is a value of them all, the latest first

module _ {A B : Type 0} (add : A → B → A) where
  -- with what one record gives, if anything
  abbrev pub put : A → Option B → A
  put gathered None = gathered
  put gathered (Some b) = add gathered b

  put_first : (gathered : A) (o : Option B) (bs : List B) → fold add gathered (cons_option o bs) ≡ fold add (put gathered o) bs
  put_first gathered None bs = refl
  put_first gathered (Some b) bs = refl

  gathers : {R : Type 0} (gives : R → Option B) (value : List R → A) → ((r : R) (rs : List R) → value (r ∷ rs) ≡ put (value rs) (gives r)) →
      (earlier rs : List R) → fold add (value earlier) (filter_map gives rs) ≡ value (reverse_aux rs earlier)
  gathers gives value more earlier [] = refl
  gathers gives value more earlier (r ∷ rs) =
      put_first (value earlier) (gives r) (filter_map gives rs)
      ∙ ap (λ (a : A). fold add a (filter_map gives rs)) (sym (more r earlier))
      ∙ gathers gives value more (r ∷ earlier) rs

-- the last that an iterator gives
pub last_given : {S A : Type 0} {steps : S → Option A → S → Type 0} {s : S} {all : List A} (o : Option A) → ((xs : List A) × Drains steps s xs × (o ≡ last_or None xs)) →
    YieldsList steps (λ x. x) s all → o ≡ last_or None all
last_given o last chain =
    let d = last.1 in
    last.2 ∙ ap (last_or None) (sym (map-id last.0) ∙ (YieldsList-end chain last.0 d.1.0 d.1.1 None d.0 refl d.1.2).0)

-- the last one, or else the one at hand
pub last_fold : {A : Type 0} (plain : A) (o : Option A) (xs : List A) → unwrap_or (last_or o xs) plain ≡ fold (λ a x. x) (unwrap_or o plain) xs
last_fold plain o [] = refl
last_fold plain o (x ∷ xs) = last_fold plain (Some x) xs

-- ---- the records that are accepted are those that can be read

module _ {L : Type 0} (width : ℕ) (read : List ℕ → L) (bytes : List ℕ) (h : Header) where
  module _ (n : ℕ) (below : (earlier : List (Record L)) (at : ℕ) (o : List (Record L) × ℕ) → records_from n width read bytes h earlier at ≡ Ok o → o.0 ≡ reverse_aux (first_records width read n bytes at) earlier)
      (earlier : List (Record L)) (at : ℕ) (o : List (Record L) × ℕ) where
    accepted_read : (e : Record L × ℕ) (c : Option Cause) → accept (records_from n width read bytes h) h earlier at e c ≡ Ok o → o.0 ≡ reverse_aux (first_records width read n bytes e.1) (e.0 ∷ earlier)
    accepted_read e None ok = below (e.0 ∷ earlier) e.1 o ok
    accepted_read e (Some c) ok = let z : ◌≡◌ {A = ℕ} 0 1 = cc in absurd (omega arith)

    proceeds_read : (x : Entry L) → entry_at width read bytes at ≡ x → proceed (records_from n width read bytes h) h earlier at x ≡ Ok o → o.0 ≡ reverse_aux (first_records width read (suc n) bytes at) earlier
    unfolding first_records
    proceeds_read (Err c) is ok = let z : ◌≡◌ {A = ℕ} 0 1 = cc in absurd (omega arith)
    proceeds_read (Ok None) is ok = let same : (earlier, at) ≡ o = cc in sym (ap (λ x. x.0) same) ∙ sym (ap (λ x. reverse_aux (then_after (first_records width read n bytes) (result_unwrap_or x None)) earlier) is)
    proceeds_read (Ok (Some e)) is ok =
        accepted_read e (objection h (labelled_in earlier) e.0) ok
        ∙ sym (ap (λ x. reverse_aux (then_after (first_records width read n bytes) (result_unwrap_or x None)) earlier) is)

  records_read : (n : ℕ) (earlier : List (Record L)) (at : ℕ) (o : List (Record L) × ℕ) → records_from n width read bytes h earlier at ≡ Ok o → o.0 ≡ reverse_aux (first_records width read n bytes at) earlier
  unfolding records_from first_records
  records_read zero earlier at o is = let same : (earlier, at) ≡ o = cc in sym (ap (λ x. x.0) same)
  records_read (suc n) earlier at o is = proceeds_read n (records_read n) earlier at o (entry_at width read bytes at) refl is

-- ---- a filed system

-- whichever way labels are read
module _ {L : Type 0} {g : Ghosts L} (read : List ℕ → L) (s : Filed L g) where
  -- the kind that the bytes name
  abbrev pub kind : ℕ
  kind = get_or s.bytes.now (s.begin + 5) 0

  abbrev pub filed_stands : Stands kind g.WIDTH read s.bytes.now s.begin s.header
  filed_stands = accepted_stands read s.header g.WIDTH s.bytes.now s.begin s.accepted

  abbrev pub filed : Contents L
  filed = standing kind g.WIDTH read s.bytes.now s.begin s.header filed_stands

  pub filed-fits : HeaderFits kind s.bytes.now s.begin s.header
  filed-fits = header_fits kind s.bytes.now s.begin s.header filed_stands.header_is

  pub filed_meaning : (plain : L) → meaning_at plain read g.WIDTH s.bytes.now s.begin ≡ meaning_of plain filed
  filed_meaning = accepted_meaning read s.header g.WIDTH s.bytes.now s.begin s.accepted

  pub filed_bounded : (plain : L) → Bounded (meaning_at plain read g.WIDTH s.bytes.now s.begin)
  filed_bounded = accepted_bounded read s.header g.WIDTH s.bytes.now s.begin s.accepted

-- as the kind reads them
module _ {L : Type 0} {g : Ghosts L} (s : Filed L g) where
  abbrev pub own_contents : Contents L
  own_contents = filed g.read s

  pub own_meaning : meaning_at g.plain g.read g.WIDTH s.bytes.now s.begin ≡ meaning_of g.plain own_contents
  own_meaning = filed_meaning g.read s g.plain

  abbrev pub filed_list : List (Record L)
  filed_list = records_after g.WIDTH g.read s.bytes.now (s.begin + 6)

  listed : own_contents.records ≡ reverse_aux filed_list []
  unfolding records_after
  listed =
      let o = filed_stands g.read s in
      records_read g.WIDTH g.read s.bytes.now s.header (length s.bytes.now) [] (s.begin + 6) (o.records, o.end) o.records_are

  -- what is gathered from all the records
  pub asks : {A B : Type 0} (add : A → B → A) (gives : Record L → Option B) (value : List (Record L) → A) → ((r : Record L) (rs : List (Record L)) → value (r ∷ rs) ≡ put add (value rs) (gives r)) →
      (init result : A) → init ≡ value [] → result ≡ fold add init (filter_map gives filed_list) → result ≡ value own_contents.records
  asks {A} add gives value more init result begins is =
      is
      ∙ ap (λ (a : A). fold add a (filter_map gives filed_list)) begins
      ∙ gathers add gives value more [] filed_list
      ∙ sym (ap value listed)
