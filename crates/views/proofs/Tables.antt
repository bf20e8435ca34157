-- The sheets of a tabled system hold its tables, and tables stand for the system itself.
use Rattle.std.specs.Prelude.{◌≡◌, ℕ, ◌+◌, ◌*◌, ◌<◌, ◌≤◌, Bool, true, cond, ◌⊎◌, List, length, get_or, Ok, nat_le, nat_lt, slice_index, slice_index_or}
use Rattle.std.proofs.Math.Path.{ap, ap₂, subst₃}
use Rattle.std.proofs.Common.{sym, ◌∙◌, inl, inr, arith}
use Rattle.std.proofs.Math.Nat.{mul_comm}
use Rattle.std.proofs.lemmas.Nat.{mul-add-lt, div-mul-add, mod-mul-add}
use Rattle.std.proofs.lemmas.Bool.{cases_lt, lt-ltb, le-ltb, ltb-true, leb-true, and_parts, and_from, cond-true}
use Rattle.systems.specs.Meaning.{Meaning, Bounded}
use Rattle.systems.specs.Sets.{has, set_of}
use Rattle.systems.proofs.Sets.{has-set_of}
use Rattle.std.proofs.lemmas.Bool.Decides.{same_from_decides}
use Rattle.views.specs.declared.sheets.Shape.{Shape}
use Rattle.systems.proofs.Cells.{get_or-written}
use Rattle.views.specs.Tabled.{room, Tables, Tabulates, move_sheet, mark_sheet, label_sheet, by_sheets}

-- ---- the tables as they are written

module _ {L : Type 0} (m : Meaning L) (plain : L) (s : Shape) (moves marks : List ℕ) (labels : List L) where
  pub tables_written : s.states ≡ m.states → s.actions ≡ m.actions → s.start ≡ m.start
      → m.states * m.actions ≤ length moves → m.states ≤ length marks → m.states ≤ length labels
      → Tables m plain s (move_sheet m moves) (mark_sheet m marks) (label_sheet m labels)
  unfolding move_sheet mark_sheet label_sheet
  tables_written e₁ e₂ e₃ h k l = record {
    states = e₁;
    actions = e₂;
    start = e₃;
    moves_held = λ p a here there.
        let cell : p * m.actions + a < m.states * m.actions = omega (arith, mul-add-lt p m.actions a m.states here there, mul_comm m.actions m.states) in
        get_or-written _ moves (m.states * m.actions) (p * m.actions + a) 0 cell (omega arith)
        ∙ ap₂ (λ q b. set_of 64 (m.moves q b)) (div-mul-add p m.actions a there) (mod-mul-add p m.actions a there);
    marks_held = λ p here. get_or-written _ marks m.states p 0 here (omega arith);
    labels_held = λ p here. get_or-written m.label labels m.states p plain here (omega arith);
  }

  -- what tabulating answers, from what the three writes leave
  pub tabulates : s.states ≡ m.states → s.actions ≡ m.actions → s.start ≡ m.start
      → room m.states m.actions (length moves) (length marks) (length labels) ≡ true
      → (moves' marks' : List ℕ) (labels' : List L) → moves' ≡ move_sheet m moves → marks' ≡ mark_sheet m marks → labels' ≡ label_sheet m labels
      → Tabulates m plain moves marks labels (Ok s) moves' marks' labels'
  tabulates e₁ e₂ e₃ fits moves' marks' labels' d₁ d₂ d₃ =
      let (long, rest) = and_parts (nat_le (m.states * m.actions) (length moves)) _ fits in
      let (high, wide) = and_parts (nat_le m.states (length marks)) _ rest in
      let held = tables_written e₁ e₂ e₃ (leb-true _ _ long) (leb-true _ _ high) (leb-true _ _ wide) in
      record {
        answer = (fits, subst₃ (Tables m plain s) (sym d₁) (sym d₂) (sym d₃) held);
        moves_after = d₁ ∙ sym (cond-true _ _ moves fits);
        marks_after = d₂ ∙ sym (cond-true _ _ marks fits);
        labels_after = d₃ ∙ sym (cond-true _ _ labels fits);
      }

-- ---- tables stand for the system

module _ {L : Type 0} (m : Meaning L) (bounded : Bounded m) (plain : L) (s : Shape) (moves marks : List ℕ) (labels : List L) (held : Tables m plain s moves marks labels) where
  same_moves : (p a t : ℕ) → (by_sheets plain s moves marks labels).moves p a t ≡ m.moves p a t
  same_moves p a t =
      same_from_decides _ (m.moves p a t) (
        λ e.
            let (x, y) = and_parts _ _ e in
            let (p<, a<) = and_parts (nat_lt p s.states) _ x in
            let (t<, in_Cell) = and_parts (nat_lt t s.states) _ y in
            let hp = ltb-true p s.states p< in
            let ha = ltb-true a s.actions a< in
            let ht = ltb-true t s.states t< in
            sym (cell (omega (arith, held.states)) (omega (arith, held.actions)) (omega (arith, held.states, bounded.few_states))) ∙ in_Cell,
        λ e.
            let (hp, ha, ht) = bounded.moves_present p a t e in
            and_from _ _
            (and_from _ _ (lt-ltb p s.states (omega (arith, held.states))) (lt-ltb a s.actions (omega (arith, held.actions))))
            (and_from _ _ (lt-ltb t s.states (omega (arith, held.states))) (cell hp ha (omega (arith, bounded.few_states)) ∙ e)),
      )
      (λ e. e, λ e. e)
    where
      cell : p < m.states → a < m.actions → t < 64 → has (slice_index moves (p * s.actions + a)) t ≡ m.moves p a t
      cell hp ha ht =
          ap (λ n. has (slice_index moves (p * n + a)) t) held.actions ∙ ap (λ n. has n t) (held.moves_held p a hp ha)
          ∙ has-set_of 64 (m.moves p a) t ht

  same_marks : (p a : ℕ) → (by_sheets plain s moves marks labels).marks p a ≡ m.marks p a
  same_marks p a =
      same_from_decides _ (m.marks p a) (
        λ e.
            let (p<, y) = and_parts (nat_lt p s.states) _ e in
            let (a<, in_Cell) = and_parts (nat_lt a s.actions) _ y in
            let hp = ltb-true p s.states p< in
            let ha = ltb-true a s.actions a< in
            sym (cell (omega (arith, held.states)) (omega (arith, held.actions, bounded.few_actions))) ∙ in_Cell,
        λ e.
            let (hp, ha) = bounded.marks_present p a e in
            and_from _ _ (lt-ltb p s.states (omega (arith, held.states)))
            (and_from _ _ (lt-ltb a s.actions (omega (arith, held.actions))) (cell hp (omega (arith, bounded.few_actions)) ∙ e)),
      )
      (λ e. e, λ e. e)
    where
      cell : p < m.states → a < 32 → has (slice_index marks p) a ≡ m.marks p a
      cell hp ha = ap (λ n. has n a) (held.marks_held p hp) ∙ has-set_of 32 (m.marks p) a ha

  same_label : (p : ℕ) → (by_sheets plain s moves marks labels).label p ≡ m.label p
  same_label p = go (cases_lt p s.states)
    where
      at : Bool → L
      at b = slice_index_or labels (cond b p s.start) plain

      go : (p < s.states) ⊎ (s.states ≤ p) → at (nat_lt p s.states) ≡ m.label p
      go (inl h) = ap at (lt-ltb p s.states h) ∙ held.labels_held p (omega (arith, held.states))
      go (inr h) =
          ap at (le-ltb p s.states h) ∙ ap (λ q. get_or labels q plain) held.start
          ∙ held.labels_held m.start bounded.start_present ∙ sym (bounded.absent_label p (omega (arith, held.states)))

  pub tables_faithful : by_sheets plain s moves marks labels ≡ m
  tables_faithful = λ i. record {
    states = held.states i;
    actions = held.actions i;
    start = held.start i;
    moves = λ p a t. same_moves p a t i;
    marks = λ p a. same_marks p a i;
    label = λ p. same_label p i;
  }
