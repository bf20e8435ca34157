use Rattle.std.proofs.Common.{rules, tests}
use Rattle.comparison.specs.Search.{from_round, mask_of}
use Rattle.comparison.specs.Sheet.{cells_of}
use Rattle.comparison.proofs.relation.related_row.Goals as goal

pub returns : goal.returns
unfolding mask_of from_round
returns c = c.set_where.ensures (from_round c.args.k (cells_of c.args.grid.width c.args.sheet.now) c.args.p) (λ i b h p. search (rules, tests))
