use Rattle.std.proofs.Common.{true, false, not, refl, ap, ◌∙◌}
use Rattle.formulas.proofs.NodeSets.{must_enter_is}
use Rattle.formulas.proofs.judging.must_enter.Goals as goal

pub returns-then-not-is_open : goal.returns-then-not-is_open
returns-then-not-is_open g c =
    let s = c.args.system.now in
    must_enter_is (g.S.System.meaning s) (g.met.S.System.bounded s) c.args.p c.args.action c.args.set c.reach.ensures
    false c.if-not-is_open.ensures c.is_within.ensures

pub returns-else-not-is_open : goal.returns-else-not-is_open
returns-else-not-is_open g c =
    let s = c.args.system.now in
    ap not c.if-not-is_open.false
    ∙ must_enter_is (g.S.System.meaning s) (g.met.S.System.bounded s) c.args.p c.args.action c.args.set refl
    true c.if-not-is_open.ensures refl
