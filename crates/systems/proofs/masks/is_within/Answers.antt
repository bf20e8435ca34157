use Rattle.std.proofs.Common.{arith}
use Rattle.systems.proofs.Sets.{and_contained}
use Rattle.systems.proofs.masks.is_within.Goals as goal

pub returns : goal.returns
returns c = and_contained 64 c.args.set c.args.other (omega arith) (omega arith)
