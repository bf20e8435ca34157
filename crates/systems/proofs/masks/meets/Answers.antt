use Rattle.std.proofs.Common.{sym, arith}
use Rattle.systems.proofs.Sets.{some_and}
use Rattle.systems.proofs.masks.meets.Goals as goal

pub returns : goal.returns
returns c = sym (some_and 64 c.args.set c.args.other (omega arith))
