-- Simulations and bisimulations, and what a layer on both sides makes of the prebisimulations.
use Rattle.std.specs.Prelude.{◌≡◌, ℕ, ◌<◌, Bool, true}
use Rattle.systems.specs.Meaning.{Meaning, Bounded}
use Rattle.preorder.specs.Prebisimulation.{Relation, Prebisimulation}

-- A relation between first and second states: labels are below, and each move of p has a move of q by the same action to
-- a related state.
pub record Simulation {L : Type 0} (below : L → L → Bool) (m n : Meaning L) (R : Relation) : Type 0 where
  pub present : (p q : ℕ) → R p q ≡ true → (p < m.states) × (q < n.states)
  pub labels : (p q : ℕ) → R p q ≡ true → below (m.label p) (n.label q) ≡ true
  pub forth : (p q a t : ℕ) → R p q ≡ true → m.moves p a t ≡ true → (u : ℕ) × (n.moves q a u ≡ true) × (R t u ≡ true)

-- A simulation whose moves are answered the other way too.
pub record Bisimulation {L : Type 0} (below : L → L → Bool) (m n : Meaning L) (R : Relation) : Type 0 where
  pub simulation : Simulation below m n R
  pub back : (p q a u : ℕ) → R p q ≡ true → n.moves q a u ≡ true → (t : ℕ) × (m.moves p a t ≡ true) × (R t u ≡ true)

-- With the layer on both systems, which have the same actions, a relation is a prebisimulation exactly if it is of this kind.
abbrev pub Layered : {L : Type 0} → (L → L → Bool) → (Meaning L → Meaning L) → ((L → L → Bool) → Meaning L → Meaning L → Relation → Type 0) → Type 0
Layered {L} below layer Kind =
    (m n : Meaning L) (R : Relation) → Bounded m → Bounded n → m.actions ≡ n.actions
    → (Prebisimulation below (layer m) (layer n) R → Kind below m n R) × (Kind below m n R → Prebisimulation below (layer m) (layer n) R)
