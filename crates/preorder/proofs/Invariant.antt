-- How each pair stands after some rounds, and what a reason says of its pair.
use Rattle.std.proofs.Common.{◌≡◌, ℕ, suc, ◌<◌, ◌≤◌, Bool, true, false, Some}
use Rattle.systems.specs.Meaning.{Meaning}
use Rattle.preorder.specs.Prebisimulation.{Relation, Approximant}
use Rattle.preorder.specs.Reason.{Reason, unanswered, reason}
use Rattle.preorder.specs.Strikes.{Cells, blank, struck_at, related}

-- what a reason says of the pair (p, q) over the relation R
pub data Justified {L : Type 0} (m n : Meaning L) (R : Relation) (p q : ℕ) : Reason → Type 0 where
  forth_justified : (a t : ℕ) → a < m.actions → t < m.states → unanswered m n R p q a t ≡ true
      → Justified m n R p q (record { kind = 1; action = a; target = t })
  mark_justified : (a : ℕ) → a < m.actions → m.marks p a ≡ false → n.marks q a ≡ true
      → Justified m n R p q (record { kind = 2; action = a; target = 0 })
  back_justified : (a u : ℕ) → a < m.actions → u < n.states → m.marks p a ≡ false → n.marks q a ≡ false
      → unanswered n m (λ x y. R y x) q p a u ≡ true → Justified m n R p q (record { kind = 3; action = a; target = u })

module _ {L : Type 0} (below : L → L → Bool) (m n : Meaning L) where
  -- how a pair stands after k rounds: unstruck, struck by the opening, or struck by round j + 1
  pub data Stands (k : ℕ) (c : Cells) (p q : ℕ) : Type 0 where
    is_unstruck : c p q ≡ blank → Approximant below m n k p q → Stands k c p q
    label_struck : c p q ≡ record { round = 0; kind = 0; action = 0; target = 0 } → below (m.label p) (n.label q) ≡ false → Stands k c p q
    round_struck : (j : ℕ) (r : Reason) → suc j ≤ k → c p q ≡ struck_at (suc j) r → Approximant below m n j p q
        → reason m n (related below m n (suc j) c) p q ≡ Some r → Stands k c p q

  abbrev pub Sound : ℕ → Cells → Type 0
  Sound k c = (p q : ℕ) → p < m.states → q < n.states → Stands k c p q
