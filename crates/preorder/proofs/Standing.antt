-- What the cell of an unstruck pair holds, and that of a struck one.
use Rattle.std.proofs.Common.{◌≡◌, ℕ, suc, ◌<◌, Bool, false, ◌⊎◌, Some, ap, inl, inr, arith}
use Rattle.systems.specs.Meaning.{Meaning}
use Rattle.preorder.specs.Reason.{reason}
use Rattle.preorder.specs.Strikes.{Cell, Cells, blank, Struck, Unstruck, related}
use Rattle.preorder.proofs.Invariant.{is_unstruck, label_struck, round_struck, Sound}

module _ {L : Type 0} (below : L → L → Bool) (m n : Meaning L) (k : ℕ) (c : Cells) (s : Sound below m n k c) where
  pub unstruck_blank : (p q : ℕ) → p < m.states → q < n.states → Unstruck k c p q → c p q ≡ blank
  unstruck_blank p q hp hq h = elim (s p q hp hq) [
    | is_unstruck e x ↦ e
    | label_struck e x ↦ absurd (omega (arith, ap (λ (y : Cell). y.round) e))
    | round_struck j r le e x why ↦ absurd (omega (arith, ap (λ (y : Cell). y.round) e))
  ]

  -- the opening struck the pair by its labels, or a round struck it for the reason in its cell
  pub reasons_stand : k < 65535 → (p q : ℕ) → p < m.states → q < n.states → Struck k c p q
      → (((c p q).round ≡ 0) × (below (m.label p) (n.label q) ≡ false) × ((c p q).kind ≡ 0) × ((c p q).action ≡ 0) × ((c p q).target ≡ 0))
      ⊎ ((j : ℕ) × ((c p q).round ≡ suc j) × (reason m n (related below m n (suc j) c) p q
      ≡ Some (record { kind = (c p q).kind; action = (c p q).action; target = (c p q).target })))
  reasons_stand small p q hp hq h = elim (s p q hp hq) [
    | is_unstruck e x ↦ absurd (omega (arith, ap (λ (y : Cell). y.round) e))
    | label_struck e x ↦ inl (rw e, x, rw e, rw e, rw e)
    | round_struck j r le e x why ↦ inr (j, rw e, rw e why)
  ]
