-- An approximant keeps the formulas that are no deeper than it is far along.
use Rattle.std.proofs.Common.{◌≡◌, ℕ, zero, suc, ◌≤◌, Bool, true, inl, inr, arith}
use Rattle.systems.specs.Label.{Preorder}
use Rattle.systems.specs.Meaning.{Meaning}
use Rattle.formulas.specs.Formula.{Formula, top, bottom, labelled, both, either, diamond, box, Satisfies, depth}
use Rattle.preorder.specs.Prebisimulation.{Approximant}

module _ {L : Type 0} (below : L → L → Bool) (m n : Meaning L) where
  -- an approximant relates states whose labels fit
  pub approximant_labels : (k p q : ℕ) → Approximant below m n k p q → below (m.label p) (n.label q) ≡ true
  approximant_labels zero p q h = h
  approximant_labels (suc k) p q h = h.labels

  pub approximant_keeps : Preorder below → (k : ℕ) (f : Formula L) (p q : ℕ) → depth f ≤ k → Approximant below m n k p q
      → Satisfies below m p f → Satisfies below n q f
  approximant_keeps order k top p q d h x = x
  approximant_keeps order k bottom p q d h x = x
  approximant_keeps order k (labelled l) p q d h x = order.transitive _ _ _ x (approximant_labels k p q h)
  approximant_keeps order k (both f g) p q d h x =
      (approximant_keeps order k f p q (omega arith) h x.0, approximant_keeps order k g p q (omega arith) h x.1)
  approximant_keeps order k (either f g) p q d h (inl x) = inl (approximant_keeps order k f p q (omega arith) h x)
  approximant_keeps order k (either f g) p q d h (inr x) = inr (approximant_keeps order k g p q (omega arith) h x)
  approximant_keeps order zero (diamond a f) p q d h x = absurd (omega arith)
  approximant_keeps order (suc k) (diamond a f) p q d h x =
      let y = h.forth a x.0 x.1 in
      (y.0, y.1, approximant_keeps order k f x.0 y.0 (omega arith) y.2 x.2)
  approximant_keeps order zero (box a f) p q d h x = absurd (omega arith)
  approximant_keeps order (suc k) (box a f) p q d h x = (
    h.closed a x.0,
    λ u e. let y = h.back a u x.0 e in approximant_keeps order k f y.0 u (omega arith) y.2 (x.1 y.0 y.1),
  )
