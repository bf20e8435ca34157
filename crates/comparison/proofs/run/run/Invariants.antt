use Rattle.comparison.proofs.Running.{Running}
use Rattle.comparison.proofs.run.run.Given as goal

abbrev pub invariant-loop-done : goal.invariant-loop-done
invariant-loop-done g l =
    Running g.L.Label.below (g.A.System.meaning l.first) (g.B.System.meaning l.second) l.allowance
    (record { stage = l.initial.stage; sheet = l.initial.sheet; done = 0; struck = 0 })
    (record { stage = l.stage; sheet = l.sheet; done = l.done; struck = l.struck })
