use Rattle.std.proofs.Common.{◌≡◌}
use Rattle.preorder.specs.Strikes.{count_pairs}
use Rattle.comparison.specs.Grid.{laid}
use Rattle.comparison.specs.Search.{relation_of, strike_over, struck_over}
use Rattle.comparison.specs.Sheet.{cells_of}
use Rattle.comparison.proofs.striking.Round.strike_rows.Given as goal

abbrev pub invariant-loop-p : goal.invariant-loop-p
invariant-loop-p g l =
    (l.struck
    ≡ count_pairs l.p (g.B.System.meaning l.self.second.now).states
    (struck_over (g.A.System.meaning l.self.first.now) (g.B.System.meaning l.self.second.now) (relation_of l.self.related.rows)))
    × (l.sheet
    ≡ laid l.p (g.B.System.meaning l.self.second.now).states
    (strike_over (g.A.System.meaning l.self.first.now) (g.B.System.meaning l.self.second.now) (relation_of l.self.related.rows) l.self.k
    (cells_of (g.B.System.meaning l.self.second.now).states l.initial.sheet))
    l.initial.sheet)
