-- Cells that agree on the present pairs call the same pairs related, strike for the same reasons, and stand alike.
use Rattle.std.proofs.Common.{◌≡◌, ℕ, suc, ◌<◌, ◌≤◌, Bool, cond, ltb, ◌⊎◌, is_some, None, ap, ◌∙◌, ap₂, inl, inr}
use mathlib.Core.Path.{fun_ext}
use Rattle.std.proofs.lemmas.Bool.{cases_lt, le-ltb, and_right}
use Rattle.systems.specs.Meaning.{Meaning}
use Rattle.preorder.specs.Reason.{reason}
use Rattle.preorder.specs.Strikes.{Cells, count_pairs, related, struck_or_kept, strikes, rounded, newly_struck}
use Rattle.preorder.proofs.Invariant.{is_unstruck, label_struck, round_struck, Sound}

module _ {L : Type 0} (below : L → L → Bool) (m n : Meaning L) (c d : Cells)
    (agree : (p q : ℕ) → p < m.states → q < n.states → c p q ≡ d p q) where
  pub related_agrees : (k : ℕ) → related below m n k c ≡ related below m n k d
  unfolding related
  related_agrees k = fun_ext (λ p. fun_ext (λ q. go p q (cases_lt p m.states) (cases_lt q n.states)))
    where
      go : (p q : ℕ) → (p < m.states) ⊎ (m.states ≤ p) → (q < n.states) ⊎ (n.states ≤ q)
          → related below m n k c p q ≡ related below m n k d p q
      go p q (inl hp) (inl hq) = rw (agree p q hp hq)
      go p q (inl hp) (inr hq) = rw (and_right (ltb p m.states) _ (le-ltb q n.states hq))
      go p q (inr hp) hq = rw (le-ltb p m.states hp)

  strikes_agree : (k p q : ℕ) → strikes below m n k c p q ≡ strikes below m n k d p q
  unfolding strikes
  strikes_agree k p q = ap (λ R. cond (R p q) (reason m n R p q) None) (related_agrees k)

  pub rounded_agrees : (k p q : ℕ) → p < m.states → q < n.states → rounded below m n k c p q ≡ rounded below m n k d p q
  unfolding rounded
  rounded_agrees k p q hp hq = ap₂ (struck_or_kept below m n k) (agree p q hp hq) (strikes_agree k p q)

  pub newly_struck_agrees : (k : ℕ) → newly_struck below m n k c ≡ newly_struck below m n k d
  unfolding newly_struck
  newly_struck_agrees k = ap (count_pairs m.states n.states) (fun_ext (λ p. fun_ext (λ q. ap is_some (strikes_agree k p q))))

  pub sound_agrees : (k : ℕ) → Sound below m n k d → Sound below m n k c
  sound_agrees k sound p q hp hq = elim (sound p q hp hq) [
    | is_unstruck e A ↦ is_unstruck (agree p q hp hq ∙ e) A
    | label_struck e fails ↦ label_struck (agree p q hp hq ∙ e) fails
    | round_struck j r le e A why ↦
        round_struck j r le (agree p q hp hq ∙ e) A (ap (λ R. reason m n R p q) (related_agrees (suc j)) ∙ why)
  ]
