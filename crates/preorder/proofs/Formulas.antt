-- An unstruck pair is one whose first state has no formula, as deep as the rounds at most, against the second.
use Rattle.std.proofs.Common.{ℕ, ◌<◌, ◌≤◌, Bool, ◌↔◌, inl, inr}
use Rattle.std.proofs.lemmas.Bool.{cases_lt}
use Rattle.systems.specs.Label.{Preorder}
use Rattle.systems.specs.Meaning.{Meaning, Bounded}
use Rattle.formulas.specs.Formula.{Formula, Satisfies, depth}
use Rattle.preorder.specs.Strikes.{Cells, Unstruck}
use Rattle.preorder.proofs.Invariant.{Sound}
use Rattle.preorder.proofs.Logic.{approximant_keeps}
use Rattle.preorder.proofs.Rounds.{unstruck_approximant}
use Rattle.preorder.proofs.Unfolded.{struck_unfolds}

module _ {L : Type 0} (below : L → L → Bool) (m n : Meaning L) (order : Preorder below) (bm : Bounded m) (bn : Bounded n)
    (k : ℕ) (small : k < 65535) (c : Cells) (s : Sound below m n k c) where
  pub unstruck_formulas : (p q : ℕ) → p < m.states → q < n.states
      → Unstruck k c p q ↔ ((f : Formula L) → depth f ≤ k → Satisfies below m p f → Satisfies below n q f)
  unstruck_formulas p q hp hq = (
    λ h f d x. approximant_keeps below m n order k f p q d ((unstruck_approximant below m n bm bn k small c s p q hp hq).0 h) x,
    λ all. elim (cases_lt k (c p q).round) [
      | inl lt ↦ lt
      | inr le ↦
          let x = struck_unfolds below m n order bm bn k small c s p q hp hq le in
          absurd (x.4 (all x.0 (rw x.2 le) x.3))
    ],
  )
