use Rattle.std.proofs.Common.{arith}
use Rattle.filing.proofs.Asking.{filed-fits}
use Rattle.filing.proofs.filed.Filed.records.Goals as goal

pub overflow_add-result : goal.overflow_add-result
overflow_add-result g c = omega (arith, (filed-fits g.L.Label.read c.args.self.now).inside)
