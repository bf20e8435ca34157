use Rattle.std.proofs.Common.{rules}
use Rattle.comparison.specs.Search.{opened_strike}
use Rattle.comparison.proofs.Rows.{row_lent}
use Rattle.comparison.proofs.opening.open_row.Goals as goal

pub returns : goal.returns
returns g c =
    let m = g.A.System.meaning c.args.first.now in
    let n = g.B.System.meaning c.args.second.now in
    let cell = opened_strike g.L.Label.below m n c.args.p in
    row_lent c.args.grid.width c.args.p c.place.result c.from.result cell c.args.sheet.now c.write_first.new.cells c.requires c.place.ensures c.from.ensures
    (c.write_first.ensures cell (λ q x h k. search rules))
