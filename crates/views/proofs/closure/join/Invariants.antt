use Rattle.std.proofs.Common.{◌≡◌}
use Rattle.systems.specs.Sets.{has, set_of}
use Rattle.views.specs.Weak.{in_rows, leads}
use Rattle.views.proofs.closure.join.Given as goal

abbrev pub invariant-loop-q : goal.invariant-loop-q
invariant-loop-q l = l.found ≡ set_of 64 (leads l.q (has l.set) (in_rows l.rows))
