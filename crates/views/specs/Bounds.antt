-- That a view keeps within bounds: lemmas for the laws of the layers and of the weak view, which may cite nothing but what stands here.
use Rattle.std.specs.Prelude.{◌≡◌, ℕ, ◌<◌, Bool, true, nat_lt}
use Rattle.std.proofs.lemmas.Bool.{ltb-true, and_parts}
use Rattle.systems.specs.Meaning.{Meaning, Bounded}
use Rattle.views.specs.Layers.{marked, present}
use Rattle.views.specs.Weak.{view_moves, view_marks, view_by}

pub present_within : (states actions p a : ℕ) → present states actions p a ≡ true → (p < states) × (a < actions)
unfolding present
present_within states actions p a e = let (p<, a<) = and_parts _ _ e in (ltb-true p states p<, ltb-true a actions a<)

module _ {L : Type 0} (m : Meaning L) (bounded : Bounded m) where
  -- other moves and other marks, of present states and actions alone
  remade_bounded : (f : ℕ → ℕ → ℕ → Bool) (g : ℕ → ℕ → Bool)
      → ((p a t : ℕ) → f p a t ≡ true → (p < m.states) × (a < m.actions) × (t < m.states))
      → ((p a : ℕ) → g p a ≡ true → (p < m.states) × (a < m.actions))
      → Bounded (record m { moves = f; marks = g })
  remade_bounded f g moving marking = record {
    some_states = bounded.some_states;
    few_states = bounded.few_states;
    some_actions = bounded.some_actions;
    few_actions = bounded.few_actions;
    start_present = bounded.start_present;
    moves_present = moving;
    marks_present = marking;
    absent_label = bounded.absent_label;
  }

  pub marked_bounded : (g : ℕ → ℕ → Bool) → ((p a : ℕ) → g p a ≡ true → (p < m.states) × (a < m.actions)) → Bounded (marked m g)
  marked_bounded g marking = remade_bounded m.moves g bounded.moves_present marking

  pub moves_within : (c : ℕ → ℕ → Bool) (p a t : ℕ) → view_moves m c p a t ≡ true → (p < m.states) × (a < m.actions) × (t < m.states)
  unfolding view_moves
  moves_within c p a t e =
      let (x, y) = and_parts _ _ e in
      let (p<, a<) = and_parts (nat_lt p m.states) _ x in
      let (t<, h) = and_parts (nat_lt t m.states) _ y in
      (ltb-true p m.states p<, ltb-true a m.actions a<, ltb-true t m.states t<)

  pub view_bounded : (c : ℕ → ℕ → Bool) (d : ℕ → Bool) → Bounded (view_by m c d)
  unfolding view_marks
  view_bounded c d =
      remade_bounded (view_moves m c) (view_marks m c d) (moves_within c)
      (λ p a e.
      let (p<, x) = and_parts (nat_lt p m.states) _ e in
      let (a<, y) = and_parts (nat_lt a m.actions) _ x in
      (ltb-true p m.states p<, ltb-true a m.actions a<))
