-- Prebisimulations between two systems, and the family of relations that approximates them.
use Rattle.std.specs.Prelude.{◌≡◌, ℕ, zero, suc, ◌<◌, Bool, true, false}
use Rattle.systems.specs.Meaning.{Meaning}

-- What a prebisimulation asks of a pair (p, q), over a relation R for the states that its moves lead to.
pub record Transfers {L : Type 0} (below : L → L → Bool) (m n : Meaning L) (R : ℕ → ℕ → Type 0) (p q : ℕ) : Type 0 where
  -- the label of p is below the label of q
  pub labels : below (m.label p) (n.label q) ≡ true
  -- each move of p has a move of q by the same action to a related state
  pub forth : (a t : ℕ) → m.moves p a t ≡ true → (u : ℕ) × (n.moves q a u ≡ true) × R t u
  -- where p is closed, q is closed
  pub closed : (a : ℕ) → m.marks p a ≡ false → n.marks q a ≡ false
  -- and there each move of q has a move of p by the same action to a related state
  pub back : (a u : ℕ) → m.marks p a ≡ false → n.moves q a u ≡ true → (t : ℕ) × (m.moves p a t ≡ true) × R t u

-- A relation between the states of two systems, as a test on pairs.
abbrev pub Relation : Type 0
Relation = ℕ → ℕ → Bool

-- a relation between first and second states that keeps what it asks of its pairs
pub record Prebisimulation {L : Type 0} (below : L → L → Bool) (m n : Meaning L) (R : Relation) : Type 0 where
  pub present : (p q : ℕ) → R p q ≡ true → (p < m.states) × (q < n.states)
  pub transfers : (p q : ℕ) → R p q ≡ true → Transfers below m n (λ t u. R t u ≡ true) p q

-- The k-th approximant: at 0 the pairs whose labels fit, and then what a pair is asked over the approximant before.
abbrev pub Approximant : {L : Type 0} → (L → L → Bool) → Meaning L → Meaning L → ℕ → ℕ → ℕ → Type 0
Approximant below m n zero p q = below (m.label p) (n.label q) ≡ true
Approximant below m n (suc k) p q = Transfers below m n (Approximant below m n k) p q
