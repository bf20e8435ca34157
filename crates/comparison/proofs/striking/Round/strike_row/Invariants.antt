use Rattle.std.proofs.Common.{◌≡◌}
use Rattle.systems.specs.Sets.{count}
use Rattle.comparison.specs.Search.{relation_of, row_filled, strike_over, struck_over}
use Rattle.comparison.specs.Sheet.{cells_of}
use Rattle.comparison.proofs.striking.Round.strike_row.Given as goal

abbrev pub invariant-loop-q : goal.invariant-loop-q
invariant-loop-q g l =
    (l.struck ≡ count l.q (struck_over (g.A.System.meaning l.self.first.now) (g.B.System.meaning l.self.second.now) (relation_of l.self.related.rows) l.p))
    × (l.sheet
    ≡ row_filled l.grid.width l.p l.q
    (strike_over (g.A.System.meaning l.self.first.now) (g.B.System.meaning l.self.second.now) (relation_of l.self.related.rows) l.self.k
    (cells_of l.grid.width l.initial.sheet) l.p)
    l.initial.sheet)
