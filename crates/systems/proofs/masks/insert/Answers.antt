use Rattle.std.proofs.Common.{eqb, sym, ◌∙◌, ap₂, arith}
use lib.Bits.{bit_or}
use Rattle.std.proofs.lemmas.Nat.{one_shl}
use Rattle.std.proofs.lemmas.Bool.{ne_eqb}
use Rattle.systems.specs.Sets.{has}
use Rattle.systems.proofs.Sets.{set_of-has, set_of_or, set_of_single, set_unchanged}
use Rattle.systems.proofs.masks.insert.Goals as goal

pub returns-then-i-lt64 : goal.returns-then-i-lt64
returns-then-i-lt64 c =
    ap₂ bit_or (sym (set_of-has 64 c.args.set (omega arith))) (one_shl c.args.i 64 (omega arith) ∙ sym (set_of_single 64 c.args.i (omega arith)))
    ∙ set_of_or 64 (has c.args.set) (λ j. eqb j c.args.i)

pub returns-else-i-lt64 : goal.returns-else-i-lt64
returns-else-i-lt64 c =
    set_unchanged 64 c.args.set _ (omega arith) (λ j h. ne_eqb j c.args.i (omega arith))
