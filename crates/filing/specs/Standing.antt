-- What is known of accepted bytes: their header fits, their records name present states and actions only. These are lemmas for the law of
-- the filed system, that it is within bounds; a law may cite nothing but what stands here.
use Rattle.std.proofs.Common.{◌≡◌, ℕ, zero, suc, ◌+◌, ◌<◌, ◌≤◌, Bool, true, false, cond, not, ltb, List, [], ◌∷◌, length, get_or, Some, None, Ok, Err, Option, Result, sym, refl, ap, ◌∙◌, subst, ⊎_elim, arith}
use Rattle.std.proofs.lemmas.Bool.{true≢false, or_cases, ltb-false}
use Rattle.std.proofs.lemmas.Bool.Decides.{nat_tests}
use Rattle.systems.specs.Meaning.{Bounded}
use Rattle.filing.specs.declared.fault.Cause.{Cause}
use Rattle.filing.specs.declared.header.Header.{Header}
use Rattle.filing.specs.declared.record.Record.{Record}
use Rattle.filing.specs.Accepted.{has_header, meaning_in, meaning_at, shape}
use Rattle.filing.specs.Contents.{Contents, Outcome, accept, proceed, records_from, move_in, mark_in, label_in, says_move, says_mark, labelled_in, objection, with_header, in_bounds, is_system, header_at, contents, contents_after, meaning_of}
use Rattle.filing.specs.Format.{Entry, mark, entry_at}
use Rattle.filing.specs.Shape.{header_blank}

-- ---- the header

pub record HeaderFits (kind : ℕ) (bytes : List ℕ) (begin : ℕ) (h : Header) : Type 0 where
  pub some_states : 1 ≤ h.states
  pub few_states : h.states ≤ 64
  pub some_actions : 1 ≤ h.actions
  pub few_actions : h.actions ≤ 32
  pub start_present : h.start < h.states
  pub inside : begin + 6 ≤ length bytes
  pub named : kind ≡ get_or bytes (begin + 5) 0

pub header_fits : (kind : ℕ) (bytes : List ℕ) (begin : ℕ) (h : Header) → header_at kind bytes begin ≡ Ok h → HeaderFits kind bytes begin h
unfolding header_at
header_fits kind bytes begin h is = go (is_system (mark bytes begin)) (ltb (length bytes) (begin + 6)) refl (in_bounds kind s a t c) refl is
  where
    s : ℕ
    s = get_or bytes (begin + 2) 0

    a : ℕ
    a = get_or bytes (begin + 3) 0

    t : ℕ
    t = get_or bytes (begin + 4) 0

    c : ℕ
    c = get_or bytes (begin + 5) 0

    fields : Result Header Cause → Header
    fields (Ok k) = k
    fields (Err x) = h

    failed : (x : Cause) → Err x ≡ Ok h → ⊥
    failed x e = let z : ◌≡◌ {A = ℕ} 0 1 = cc in omega arith

    go : (marked short : Bool) → ltb (length bytes) (begin + 6) ≡ short → (fit : Bool) → in_bounds kind s a t c ≡ fit →
        cond (not marked) (Err Cause.NoSystem) (cond short (Err Cause.CutShort) (cond fit (Ok (record { states = s; actions = a; start = t })) (Err Cause.BadSystem))) ≡ Ok h → HeaderFits kind bytes begin h
    go false short long fit fits e = absurd (failed Cause.NoSystem e)
    go true true long fit fits e = absurd (failed Cause.CutShort e)
    go true false long false fits e = absurd (failed Cause.BadSystem e)
    go true false long true fits e =
        subst (HeaderFits kind bytes begin) (ap fields e)
        (record {
          some_states = grind (arith, nat_tests);
          few_states = grind (arith, nat_tests);
          some_actions = grind (arith, nat_tests);
          few_actions = grind (arith, nat_tests);
          start_present = grind (arith, nat_tests);
          inside = ltb-false (length bytes) (begin + 6) long;
          named = grind (arith, nat_tests);
        })

-- ---- the records

module _ {L : Type 0} (h : Header) where
  -- the moves and marks of some records name present states and actions
  pub record Present (rs : List (Record L)) : Type 0 where
    pub moves : (p a t : ℕ) → move_in rs p a t ≡ true → (p < h.states) × (a < h.actions) × (t < h.states)
    pub marks : (p a : ℕ) → mark_in rs p a ≡ true → (p < h.states) × (a < h.actions)

  present_none : Present []
  present_none = record { moves = λ p a t e. absurd (true≢false (sym e)); marks = λ p a e. absurd (true≢false (sym e)) }

  move_present : (labelled : ℕ → Bool) (r : Record L) → objection h labelled r ≡ None → (p a t : ℕ) → says_move r p a t ≡ true → (p < h.states) × (a < h.actions) × (t < h.states)
  move_present labelled (Record.Move x y z) fine p a t e = grind (arith, nat_tests)
  move_present labelled (Record.Open x y) fine p a t e = absurd (true≢false (sym e))
  move_present labelled (Record.Label x l) fine p a t e = absurd (true≢false (sym e))

  mark-present : (labelled : ℕ → Bool) (r : Record L) → objection h labelled r ≡ None → (p a : ℕ) → says_mark r p a ≡ true → (p < h.states) × (a < h.actions)
  mark-present labelled (Record.Move x y z) fine p a e = absurd (true≢false (sym e))
  mark-present labelled (Record.Open x y) fine p a e = grind (arith, nat_tests)
  mark-present labelled (Record.Label x l) fine p a e = absurd (true≢false (sym e))

  present_more : (labelled : ℕ → Bool) (r : Record L) (rs : List (Record L)) → objection h labelled r ≡ None → Present rs → Present (r ∷ rs)
  present_more labelled r rs fine before = record {
    moves = λ p a t e. ⊎_elim (before.moves p a t) (move_present labelled r fine p a t) (or_cases (move_in rs p a t) (says_move r p a t) e);
    marks = λ p a e. ⊎_elim (before.marks p a) (mark-present labelled r fine p a) (or_cases (mark_in rs p a) (says_mark r p a) e);
  }

  -- the records that are accepted are present: one turn, and all
  module _ (go : List (Record L) → ℕ → Outcome L) (rest : (rs : List (Record L)) (next : ℕ) (x : List (Record L) × ℕ) → go rs next ≡ Ok x → Present rs → Present x.0)
      (earlier : List (Record L)) (at : ℕ) (o : List (Record L) × ℕ) (before : Present earlier) where
    accept-present : (e : Record L × ℕ) (c : Option Cause) → objection h (labelled_in earlier) e.0 ≡ c → accept go h earlier at e c ≡ Ok o → Present o.0
    accept-present e None fine ok = rest (e.0 ∷ earlier) e.1 o ok (present_more (labelled_in earlier) e.0 earlier fine before)
    accept-present e (Some c) fine ok = let z : ◌≡◌ {A = ℕ} 0 1 = cc in absurd (omega arith)

    proceed-present : (x : Entry L) → proceed go h earlier at x ≡ Ok o → Present o.0
    proceed-present (Err c) ok = let z : ◌≡◌ {A = ℕ} 0 1 = cc in absurd (omega arith)
    proceed-present (Ok None) ok = let same : (earlier, at) ≡ o = cc in subst (λ x. Present x.0) same before
    proceed-present (Ok (Some e)) ok = accept-present e (objection h (labelled_in earlier) e.0) refl ok

  records_present : (width : ℕ) (read : List ℕ → L) (bytes : List ℕ) (n : ℕ) (earlier : List (Record L)) (at : ℕ) (o : List (Record L) × ℕ) → records_from n width read bytes h earlier at ≡ Ok o → Present earlier → Present o.0
  unfolding records_from
  records_present width read bytes zero earlier at o is before = let same : (earlier, at) ≡ o = cc in subst (λ x. Present x.0) same before
  records_present width read bytes (suc n) earlier at o is before =
      proceed-present (records_from n width read bytes h) (records_present width read bytes n) earlier at o before (entry_at width read bytes at) is

-- ---- the whole

module _ {L : Type 0} (kind width : ℕ) (read : List ℕ → L) (bytes : List ℕ) (begin : ℕ) where
  -- the bytes are accepted, with this header
  pub record Stands (h : Header) : Type 0 where
    pub records : List (Record L)
    pub end : ℕ
    pub header_is : header_at kind bytes begin ≡ Ok h
    pub records_are : records_from (length bytes) width read bytes h [] (begin + 6) ≡ Ok (records, end)

  pub stands : (h : Header) → has_header h (contents kind width read bytes begin) ≡ true → Stands h
  unfolding contents
  stands h accepted = from (header_at kind bytes begin) refl accepted
    where
      with : (k : Header) → header_at kind bytes begin ≡ Ok k → (o : Outcome L) → records_from (length bytes) width read bytes k [] (begin + 6) ≡ o → has_header h (with_header k o) ≡ true → Stands h
      with k is (Err f) are e = absurd (true≢false (sym e))
      with k is (Ok o) are e =
          let states : k.states ≡ h.states = grind (arith, nat_tests) in
          let actions : k.actions ≡ h.actions = grind (arith, nat_tests) in
          let start : k.start ≡ h.start = grind (arith, nat_tests) in
          let same : k ≡ h = λ i. record { states = states i; actions = actions i; start = start i } in
          subst Stands same (record { records = o.0; end = o.1; header_is = is; records_are = are })

      from : (x : Result Header Cause) → header_at kind bytes begin ≡ x → has_header h (contents_after kind width read bytes begin x) ≡ true → Stands h
      from (Err c) is e = absurd (true≢false (sym e))
      from (Ok k) is e = with k is (records_from (length bytes) width read bytes k [] (begin + 6)) refl e

  module _ (h : Header) (s : Stands h) where
    abbrev pub standing : Contents L
    standing = record { header = h; records = s.records; end = s.end }

    pub contents_stand : contents kind width read bytes begin ≡ Ok standing
    unfolding contents
    contents_stand = ap (contents_after kind width read bytes begin) s.header_is ∙ ap (with_header h) s.records_are

    pub standing_bounded : (plain : L) → Bounded (meaning_of plain standing)
    standing_bounded plain =
        let fits = header_fits kind bytes begin h s.header_is in
        let present = records_present h width read bytes (length bytes) [] (begin + 6) (s.records, s.end) s.records_are (present_none h) in
        record {
          some_states = fits.some_states;
          few_states = fits.few_states;
          some_actions = fits.some_actions;
          few_actions = fits.few_actions;
          start_present = fits.start_present;
          moves_present = present.moves;
          marks_present = present.marks;
          absent_label = λ p absent.
              let same : cond (ltb p h.states) p h.start ≡ cond (ltb h.start h.states) h.start h.start = grind (arith, nat_tests) in
              ap (label_in plain s.records) same;
        }

-- ---- bytes of the kind that they name themselves

module _ {L : Type 0} (read : List ℕ → L) (h : Header) (width : ℕ) (bytes : List ℕ) (begin : ℕ) (accepted : has_header h (shape width bytes begin) ≡ true) where
  -- the kind that the bytes name
  abbrev pub kind : ℕ
  kind = get_or bytes (begin + 5) 0

  pub accepted_stands : Stands kind width read bytes begin h
  accepted_stands = stands kind width read bytes begin h (sym (header_blank width read bytes kind begin h) ∙ accepted)

  pub accepted_meaning : (plain : L) → meaning_at plain read width bytes begin ≡ meaning_of plain (standing kind width read bytes begin h accepted_stands)
  accepted_meaning plain = ap (meaning_in plain) (contents_stand kind width read bytes begin h accepted_stands)

  pub accepted_bounded : (plain : L) → Bounded (meaning_at plain read width bytes begin)
  accepted_bounded plain = subst Bounded (sym (accepted_meaning plain)) (standing_bounded kind width read bytes begin h accepted_stands plain)
