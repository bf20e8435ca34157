use Rattle.formulas.proofs.Judgements.{judged_judges}
use Rattle.formulas.proofs.judging.judge.Goals as goal

pub returns-clause-judges : goal.returns-clause-judges
returns-clause-judges g c =
    let s = c.args.system.now in
    λ e. judged_judges g.L.Label.below (g.S.System.meaning s) (g.met.S.System.bounded s) c.args.nodes.now c.args.answers.now _ c.write_sets.ensures
