use Rattle.views.proofs.Rows.{first-row}
use Rattle.views.proofs.closure.first_row.Goals as goal

pub returns : goal.returns
returns g c = first-row (g.S.System.meaning c.args.below.now) c.args.p _ _ c.insert.ensures c.reach.ensures
