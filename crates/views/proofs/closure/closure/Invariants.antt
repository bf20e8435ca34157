use Rattle.std.proofs.Common.{◌≡◌}
use Rattle.views.specs.Weak.{rows_through}
use Rattle.views.proofs.closure.closure.Given as goal

abbrev pub invariant-loop-k : goal.invariant-loop-k
invariant-loop-k g l = l.rows ≡ rows_through (g.S.System.meaning l.below) l.k
