-- The weak view of a system: action 0 is silent, and in the view its place is taken by any number of silent moves.
use Rattle.std.specs.Prelude.{◌≡◌, ℕ, zero, suc, ◌<◌, ◌≤◌, Bool, true, cond, ◌&&◌, ◌||◌, ◌⊎◌, List, length, replicate, bit_or, Decides, ◌==◌, nat_lt, slice_index}
use Rattle.systems.specs.Cells.{written}
use Rattle.systems.specs.Meaning.{Meaning}
use Rattle.systems.specs.Sets.{has, set_of, some_of}

-- ---- what the view is

module _ {L : Type 0} (m : Meaning L) where
  -- p comes to t by silent moves, none or more
  pub data Silently : ℕ → ℕ → Type 0 where
    stay : {p : ℕ} → Silently p p
    step : {p q t : ℕ} → m.moves p 0 q ≡ true → Silently q t → Silently p t

  -- silent moves go on from p for ever
  abbrev pub Diverges : ℕ → Type 0
  Diverges p = (s : ℕ → ℕ) × (s 0 ≡ p) × ((i : ℕ) → m.moves (s i) 0 (s (suc i)) ≡ true)

  -- p comes to t by silent moves and, unless a is silent itself, one move by a among them
  abbrev pub Weakly : ℕ → ℕ → ℕ → Type 0
  Weakly p zero t = Silently p t
  Weakly p (suc a) t = (q : ℕ) × (u : ℕ) × Silently p q × (m.moves q (suc a) u ≡ true) × Silently u t

-- The view v of m: the same but for the moves and the marks. A state is open on an action if it diverges, or if it moves
-- by the action, in the view, to a state that diverges. The marks of m do not count.
pub record WeakView {L : Type 0} (m v : Meaning L) : Type 0 where
  pub states : v.states ≡ m.states
  pub actions : v.actions ≡ m.actions
  pub start : v.start ≡ m.start
  pub label : (p : ℕ) → v.label p ≡ m.label p
  pub moves : (p a t : ℕ) → Decides (v.moves p a t) ((p < m.states) × (a < m.actions) × (t < m.states) × Weakly m p a t)
  pub marks : (p a : ℕ) → Decides (v.marks p a) ((p < m.states) × (a < m.actions) × (Diverges m p ⊎ ((t : ℕ) × Weakly m p a t × Diverges m t)))

-- ---- how it is computed

-- two sets of states meet
abbrev pub overlap : ℕ → ℕ → Bool
overlap x y = some_of 64 (λ i. has x i && has y i)

-- some number below n that passes x is related to t
unfoldable pub leads : ℕ → (ℕ → Bool) → (ℕ → ℕ → Bool) → ℕ → Bool
leads n x r t = some_of n (λ q. x q && r q t)

-- t is in row p of a table of sets
abbrev pub in_rows : List ℕ → ℕ → ℕ → Bool
in_rows rows p = has (slice_index rows p)

-- the first n rows let through number k too: each of them that has k is joined by the row of k; the others are kept
pub record Passed (rows : List ℕ) (n k : ℕ) (after : List ℕ) : Type 0 where
  pub long : length after ≡ 64
  pub each : (p : ℕ) → p < n → slice_index after p ≡ cond (in_rows rows p k) (bit_or (slice_index rows p) (slice_index rows k)) (slice_index rows p)
  pub rest : (p : ℕ) → n ≤ p → slice_index after p ≡ slice_index rows p

module _ {L : Type 0} (m : Meaning L) where
  -- p comes to t by silent moves that pass only through states below k
  unfoldable pub through : ℕ → ℕ → ℕ → Bool
  through zero p t = m.moves p 0 t || t == p
  through (suc k) p t = through k p t || (through k p k && through k k t)

  -- p comes to t by silent moves
  abbrev pub silent : ℕ → ℕ → Bool
  silent = through m.states

  -- t comes back to itself by silent moves, one or more
  unfoldable pub loops : ℕ → Bool
  loops t = nat_lt t m.states && leads m.states (m.moves t 0) silent t

  -- p comes to such a state by silent moves
  unfoldable pub diverging : ℕ → Bool
  diverging p = nat_lt p m.states && some_of m.states (λ t. silent p t && loops t)

  -- a row for each of 64 states: the set of the states that it comes to by such moves; an absent state has none
  unfoldable pub rows_through : ℕ → List ℕ
  rows_through k = written m.states (λ p. set_of 64 (through k p)) (replicate 64 0)

  abbrev pub silent_rows : List ℕ
  silent_rows = rows_through m.states

  -- p comes to t by a, with a test c for silent moves
  unfoldable pub comes : (ℕ → ℕ → Bool) → ℕ → ℕ → ℕ → Bool
  comes c p a t = cond (a == 0) (c p t) (leads m.states (leads m.states (c p) (λ q. m.moves q a)) c t)

  -- so between present states, and by a present action, it moves in the view
  unfoldable pub view_moves : (ℕ → ℕ → Bool) → ℕ → ℕ → ℕ → Bool
  view_moves c p a t = (nat_lt p m.states && nat_lt a m.actions) && (nat_lt t m.states && comes c p a t)

  -- p diverges by the test d, or moves by a in the view to a state that does
  unfoldable pub opens : (ℕ → ℕ → Bool) → (ℕ → Bool) → ℕ → ℕ → Bool
  opens c d p a = d p || some_of m.states (λ t. view_moves c p a t && d t)

  unfoldable pub view_marks : (ℕ → ℕ → Bool) → (ℕ → Bool) → ℕ → ℕ → Bool
  view_marks c d p a = nat_lt p m.states && (nat_lt a m.actions && opens c d p a)

  abbrev pub view_by : (ℕ → ℕ → Bool) → (ℕ → Bool) → Meaning L
  view_by c d = record m { moves = view_moves c; marks = view_marks c d }

  -- the view by a table of rows and a set of states, whatever they hold
  abbrev pub view_over : List ℕ → ℕ → Meaning L
  view_over rows set = view_by (in_rows rows) (has set)
