-- Going through the records from a place on: what is known at each record, and at the end.
use Rattle.std.proofs.Common.{◌≡◌, ℕ, zero, suc, ◌+◌, ◌<◌, ◌≤◌, Bool, true, false, cond, ltb, leb, List, [], ◌∷◌, length, Some, None, Ok, Err, Result, sym, refl, ap, ◌∙◌, subst, arith}
use Rattle.std.proofs.lemmas.Bool.{le-leb, le-ltb, ltb-false}
use Rattle.std.specs.Result.{result_unwrap_or}
use Rattle.filing.specs.declared.fault.Cause.{Cause}
use Rattle.filing.specs.declared.header.Header.{Header}
use Rattle.filing.specs.declared.record.Mark.{Mark}
use Rattle.filing.specs.declared.record.Record.{Record}
use Rattle.filing.specs.Reading.{then_after, first_records, records_after}
use Rattle.filing.specs.Contents.{Outcome, accept, proceed, records_from, labelled_in, objection}
use Rattle.filing.specs.Format.{Entry, whole, mark, entry_of, entry_if, entry_at}

module _ {L : Type 0} (width : ℕ) (read : List ℕ → L) (bytes : List ℕ) where
  -- a record ends after it begins, and within the bytes
  Within : ℕ → Entry L → Type 0
  Within at (Err c) = Unit {0}
  Within at (Ok None) = Unit {0}
  Within at (Ok (Some e)) = (at < e.1) × (e.1 ≤ length bytes)

  whole_within : (at size : ℕ) (r : Record L) → 0 < size → Within at (whole bytes at size r)
  unfolding Within
  whole_within at size r some = go (ltb (length bytes) (at + size)) refl
    where
      go : (b : Bool) → ltb (length bytes) (at + size) ≡ b → Within at (cond b (Err Cause.CutShort) (Ok (Some (r, at + size))))
      go true e = tt
      go false e = (omega arith, ltb-false (length bytes) (at + size) e)

  pub whole_fits : (at size : ℕ) (r : Record L) → at + size ≤ length bytes → Ok (Some (r, at + size)) ≡ whole bytes at size r
  whole_fits at size r fits = ap (λ b. cond b (Err Cause.CutShort) (Ok (Some (r, at + size)))) (sym (le-ltb (length bytes) (at + size) fits))

  mark_within : (at : ℕ) (m : Mark) → Within at (entry_of width read bytes at m)
  unfolding Within
  mark_within at Mark.System = tt
  mark_within at Mark.Move = whole_within at 5 _ (omega arith)
  mark_within at Mark.Open = whole_within at 4 _ (omega arith)
  mark_within at Mark.Label = whole_within at (3 + width) _ (omega arith)

  entry_if-within : (at : ℕ) (m : Result Mark Cause) → Within at (entry_if width read bytes at m)
  unfolding Within
  entry_if-within at (Ok m) = mark_within at m
  entry_if-within at (Err c) = tt

  pub entry_within : (at : ℕ) (e : Record L × ℕ) → entry_at width read bytes at ≡ Ok (Some e) → (at < e.1) × (e.1 ≤ length bytes)
  unfolding entry_at Within
  entry_within at e is = subst (Within at) is (go (leb (length bytes) at))
    where
      go : (b : Bool) → Within at (cond b (Ok None) (entry_if width read bytes at (mark bytes at)))
      go true = tt
      go false = entry_if-within at (mark bytes at)

  -- the records from a place on, by the entry at hand
  first_turn : (n at : ℕ) → length bytes ≤ n + at → first_records width read n bytes at ≡ then_after (first_records width read n bytes) (result_unwrap_or (entry_at width read bytes at) None)
  unfolding first_records entry_at
  first_turn zero at enough =
      let next = λ (b : Bool). result_unwrap_or (cond b (Ok None) (entry_if width read bytes at (mark bytes at))) None in
      ap (λ b. then_after (first_records width read zero bytes) (next b)) (sym (le-leb (length bytes) at (omega arith)))
  first_turn (suc n) at enough = go (first_turn n) (entry_at width read bytes at) refl
    where
      go : ((k : ℕ) → length bytes ≤ n + k → first_records width read n bytes k ≡ first_records width read (suc n) bytes k) → (x : Entry L) → entry_at width read bytes at ≡ x →
          then_after (first_records width read n bytes) (result_unwrap_or x None) ≡ then_after (first_records width read (suc n) bytes) (result_unwrap_or x None)
      go below (Err c) is = refl
      go below (Ok None) is = refl
      go below (Ok (Some e)) is = ap (λ rs. e.0 ∷ rs) (below e.1 (omega (arith, entry_within at e is)))

  pub records_turn : (at : ℕ) → records_after width read bytes at ≡ then_after (records_after width read bytes) (result_unwrap_or (entry_at width read bytes at) None)
  unfolding records_after
  records_turn at = first_turn (length bytes) at (omega arith)

module _ {L : Type 0} (width : ℕ) (read : List ℕ → L) (bytes : List ℕ) (h : Header) where
  -- A walk with this outcome stands at a place, and has gathered a value from the records that it has passed.
  pub record Walked {A : Type 0} (value : List (Record L) → A) (outcome : Outcome L) (at : ℕ) (gathered : A) : Type 0 where
    pub earlier : List (Record L)
    pub fuel : ℕ
    pub enough : length bytes ≤ fuel + at
    pub goes_on : records_from fuel width read bytes h earlier at ≡ outcome
    pub so_far : gathered ≡ value earlier

  -- the walk from a first record on
  abbrev pub Underway : {A : Type 0} → (List (Record L) → A) → ℕ → ℕ → A → Type 0
  Underway value first = Walked value (records_from (length bytes) width read bytes h [] first)

  pub walk_begins : {A : Type 0} (value : List (Record L) → A) (first : ℕ) (gathered : A) → gathered ≡ value [] → Underway value first first gathered
  walk_begins value first gathered is = record {
    earlier = [];
    fuel = length bytes;
    enough = omega arith;
    goes_on = refl;
    so_far = is;
  }

  -- the outcome, by the entry at hand
  turn : (fuel : ℕ) (earlier : List (Record L)) (at : ℕ) → length bytes ≤ fuel + at →
      (go : List (Record L) → ℕ → Outcome L) × (proceed go h earlier at (entry_at width read bytes at) ≡ records_from fuel width read bytes h earlier at)
  unfolding records_from entry_at
  turn zero earlier at enough =
      let go : List (Record L) → ℕ → Outcome L = records_from zero width read bytes h in
      let end : leb (length bytes) at ≡ true = le-leb (length bytes) at (omega arith) in
      (go, ap (λ b. proceed go h earlier at (cond b (Ok None) (entry_if width read bytes at (mark bytes at)))) end)
  turn (suc n) earlier at enough = (records_from n width read bytes h, refl)

  module _ {A : Type 0} (value : List (Record L) → A) (outcome : Outcome L) (at : ℕ) (gathered : A) (w : Walked value outcome at gathered) where
    by_entry : (go : List (Record L) → ℕ → Outcome L) × (proceed go h w.earlier at (entry_at width read bytes at) ≡ outcome)
    by_entry = let t = turn w.fuel w.earlier at w.enough in (t.0, t.1 ∙ w.goes_on)

    pub walk_ends : entry_at width read bytes at ≡ Ok None → outcome ≡ Ok (w.earlier, at)
    walk_ends is = sym by_entry.1 ∙ ap (proceed by_entry.0 h w.earlier at) is

    pub walk_fails : (c : Cause) → entry_at width read bytes at ≡ Err c → outcome ≡ Err (record { cause = c; byte = at })
    walk_fails c is = sym by_entry.1 ∙ ap (proceed by_entry.0 h w.earlier at) is

    -- the record at hand is accepted or not
    by_objection : (e : Record L × ℕ) → entry_at width read bytes at ≡ Ok (Some e) → (go : List (Record L) → ℕ → Outcome L) × (outcome ≡ accept go h w.earlier at e (objection h (labelled_in w.earlier) e.0))
    by_objection e is = (by_entry.0, sym by_entry.1 ∙ ap (proceed by_entry.0 h w.earlier at) is)

    pub walk_objects : (e : Record L × ℕ) → entry_at width read bytes at ≡ Ok (Some e) → (c : Cause) → objection h (labelled_in w.earlier) e.0 ≡ Some c → outcome ≡ Err (record { cause = c; byte = at })
    walk_objects e is c no' = let o = by_objection e is in o.1 ∙ ap (accept o.0 h w.earlier at e) no'

    pub walk_goes_on : (e : Record L × ℕ) → entry_at width read bytes at ≡ Ok (Some e) → objection h (labelled_in w.earlier) e.0 ≡ None →
        (more : A) → more ≡ value (e.0 ∷ w.earlier) → Walked value outcome e.1 more
    unfolding records_from
    walk_goes_on e is allowed more is_more = from w.fuel w.enough w.goes_on
      where
        within : (at < e.1) × (e.1 ≤ length bytes)
        within = entry_within width read bytes at e is

        from : (fuel : ℕ) → length bytes ≤ fuel + at → records_from fuel width read bytes h w.earlier at ≡ outcome → Walked value outcome e.1 more
        from zero enough goes_on = absurd (omega (arith, within))
        from (suc n) enough goes_on = record {
          earlier = e.0 ∷ w.earlier;
          fuel = n;
          enough = omega (arith, within);
          goes_on =
              let go = records_from n width read bytes h in
              sym (ap (proceed go h w.earlier at) is ∙ ap (accept go h w.earlier at e) allowed) ∙ goes_on;
          so_far = is_more;
        }
