use Rattle.std.proofs.Common.{◌≡◌, take}
use Rattle.formulas.specs.Judging.{judged}
use Rattle.formulas.proofs.judging.write_sets.Given as goal

-- the nodes so far are judged
abbrev pub invariant-loop-i : goal.invariant-loop-i
invariant-loop-i g l = l.answers ≡ judged g.L.Label.below (g.S.System.meaning l.system) (take l.i l.nodes) l.initial.answers
