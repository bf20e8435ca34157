use Rattle.std.proofs.Common.{◌≡◌}
use Rattle.comparison.specs.Grid.{laid}
use Rattle.comparison.specs.Search.{opened_strike}
use Rattle.comparison.proofs.opening.begin.Given as goal

abbrev pub invariant-loop-p : goal.invariant-loop-p
invariant-loop-p g l =
    l.sheet
    ≡ laid l.p l.grid.width
    (opened_strike g.L.Label.below (g.A.System.meaning l.first) (g.B.System.meaning l.second)) l.initial.sheet
