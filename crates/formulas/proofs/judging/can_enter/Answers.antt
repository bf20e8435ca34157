use Rattle.formulas.proofs.NodeSets.{can_enter_is}
use Rattle.formulas.proofs.judging.can_enter.Goals as goal

pub returns : goal.returns
returns g c =
    let s = c.args.system.now in
    can_enter_is (g.S.System.meaning s) (g.met.S.System.bounded s) c.args.p c.args.action c.args.set c.reach.ensures c.meets.ensures
