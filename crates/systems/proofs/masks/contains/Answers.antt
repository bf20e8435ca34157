use Rattle.std.proofs.Common.{ℕ, eqb, sym, ap, ◌∙◌, arith}
use lib.Bits.{and_mask}
use Rattle.std.proofs.lemmas.Bool.{le-ltb}
use Rattle.systems.specs.Sets.{has}
use Rattle.systems.proofs.Sets.{has_beyond}
use Rattle.systems.proofs.masks.contains.Goals as goal

pub returns-then-i-lt64 : goal.returns-then-i-lt64
unfolding has
returns-then-i-lt64 c = ap (λ (x : ℕ). eqb x 1) (and_mask _ 1)

pub returns-else-i-lt64 : goal.returns-else-i-lt64
returns-else-i-lt64 c = le-ltb _ _ (omega arith) ∙ sym (has_beyond 64 c.args.set c.args.i (omega arith) (omega arith))
