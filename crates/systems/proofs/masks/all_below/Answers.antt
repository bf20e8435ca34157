use Rattle.std.proofs.Common.{ℕ, ◌-◌, sym, ap, ◌∙◌, arith}
use Rattle.std.proofs.lemmas.Nat.{one_shl}
use Rattle.std.proofs.lemmas.Bool.{lt-ltb}
use Rattle.systems.proofs.Sets.{set_of_below, set_of_cong}
use Rattle.systems.proofs.masks.all_below.Goals as goal

pub returns-then-n-lt64 : goal.returns-then-n-lt64
returns-then-n-lt64 c =
    ap (λ (x : ℕ). x - 1) (one_shl c.args.n 64 (omega arith)) ∙ sym (set_of_below 64 c.args.n (omega arith))

pub returns-else-n-lt64 : goal.returns-else-n-lt64
returns-else-n-lt64 c =
    sym (set_of_below 64 64 (omega arith)) ∙ set_of_cong 64 _ _ (λ i h. lt-ltb i 64 h ∙ sym (lt-ltb i c.args.n (omega arith)))
