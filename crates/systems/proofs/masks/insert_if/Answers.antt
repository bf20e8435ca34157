use Rattle.std.proofs.Common.{Bool, ◌&&◌, eqb, ap, arith}
use Rattle.systems.proofs.Sets.{set_unchanged}
use Rattle.systems.proofs.masks.insert_if.Goals as goal

pub returns-else-test : goal.returns-else-test
returns-else-test c =
    set_unchanged 64 c.args.set _ (omega arith) (λ j h. ap (λ (b : Bool). b && eqb j c.args.i) c.if-test.false)
