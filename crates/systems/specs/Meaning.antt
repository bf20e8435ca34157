-- What a system means, and the bounds that every meaning keeps.
use Rattle.std.specs.Prelude.{◌≡◌, ℕ, ◌<◌, ◌≤◌, Bool, true}

-- States and actions are numbered from 0.
pub record Meaning (L : Type 0) : Type 0 where
  -- how many states and actions there are
  pub states : ℕ
  pub actions : ℕ
  -- the start state
  pub start : ℕ
  -- whether there is a move from a state, by an action, to a state
  pub moves : ℕ → ℕ → ℕ → Bool
  -- whether a state is marked open on an action; it is closed on the others
  pub marks : ℕ → ℕ → Bool
  -- a state's label
  pub label : ℕ → L

-- Everything is within bounds, and an absent state has the start state's label.
pub record Bounded {L : Type 0} (m : Meaning L) : Type 0 where
  pub some_states : 1 ≤ m.states
  pub few_states : m.states ≤ 64
  pub some_actions : 1 ≤ m.actions
  pub few_actions : m.actions ≤ 32
  pub start_present : m.start < m.states
  pub moves_present : (p a t : ℕ) → m.moves p a t ≡ true → (p < m.states) × (a < m.actions) × (t < m.states)
  pub marks_present : (p a : ℕ) → m.marks p a ≡ true → (p < m.states) × (a < m.actions)
  pub absent_label : (p : ℕ) → m.states ≤ p → m.label p ≡ m.label m.start
