-- After a round that strikes none, what is left unstruck is a prebisimulation.
use Rattle.std.proofs.Common.{◌≡◌, ℕ, suc, ◌<◌, Bool, sym, ap, ◌∙◌, subst, arith}
use mathlib.Core.Path.{fun_ext}
use Rattle.std.proofs.lemmas.Bool.Decides.{same_from_decides}
use Rattle.systems.specs.Meaning.{Meaning, Bounded}
use Rattle.preorder.specs.Prebisimulation.{Prebisimulation}
use Rattle.preorder.specs.Strikes.{Cell, Cells, related, cells_after, newly_struck}
use Rattle.preorder.proofs.Agreement.{related_agrees}
use Rattle.preorder.proofs.Invariant.{Sound}
use Rattle.preorder.proofs.Rounds.{related_says, related_from, still_cells, sound, still_prebisimulation}
use Rattle.preorder.proofs.Standing.{unstruck_blank}

-- cells after k rounds have no strike of round k + 1, so that and the round after call the same pairs related
related_next : {L : Type 0} (below : L → L → Bool) (m n : Meaning L) (k : ℕ) → suc k < 65535 → (c : Cells) → Sound below m n k c
    → related below m n (suc (suc k)) c ≡ related below m n (suc k) c
related_next below m n k few c sound = fun_ext (λ p. fun_ext (λ q.
    same_from_decides _ _ (
      λ e. let (hp, hq, le) = related_says below m n (suc (suc k)) c p q e in related_from below m n (suc k) c p q hp hq (omega arith),
      λ e. let (hp, hq, le) = related_says below m n (suc k) c p q e in
          let round = ap (λ (x : Cell). x.round) (unstruck_blank below m n k c sound p q hp hq le) in
          related_from below m n (suc (suc k)) c p q hp hq (omega arith),
    )
    (λ e. e, λ e. e)))

pub unstruck_prebisimulation : {L : Type 0} (below : L → L → Bool) (m n : Meaning L) → Bounded m → Bounded n → m.actions ≡ n.actions
    → (k : ℕ) → suc k < 65535 → newly_struck below m n (suc k) (cells_after below m n k) ≡ 0
    → Prebisimulation below m n (related below m n (suc (suc k)) (cells_after below m n (suc k)))
unstruck_prebisimulation below m n bm bn same k few still =
    subst (Prebisimulation below m n)
    (sym (related_agrees below m n (cells_after below m n (suc k)) (cells_after below m n k) (still_cells below m n k still) (suc (suc k))
    ∙ related_next below m n k few (cells_after below m n k) (sound below m n bm bn same k (omega arith))))
    (still_prebisimulation below m n bm bn same k (omega arith) still)
