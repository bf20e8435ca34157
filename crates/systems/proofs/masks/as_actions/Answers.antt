use Rattle.std.proofs.Common.{arith}
use Rattle.systems.proofs.Sets.{set_below}
use Rattle.systems.proofs.masks.as_actions.Goals as goal

pub returns : goal.returns
returns c = set_below 32 64 c.args.set (omega arith) (omega arith)
