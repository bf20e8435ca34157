use Rattle.std.proofs.Common.{◌-◌, length}
use Rattle.systems.specs.Sets.{set_of}
use Rattle.filing.specs.Contents.{labelled_in}
use Rattle.filing.proofs.Walk.{Underway}
use Rattle.filing.proofs.filing.records_end.Given as goal

abbrev pub invariant-loop-said : goal.invariant-loop-said
invariant-loop-said g l = Underway g.L.Label.WIDTH g.L.Label.read l.bytes l.header (λ rs. set_of 64 (labelled_in rs)) l.first l.at l.labelled

abbrev pub decreases-loop-said : goal.decreases-loop-said
decreases-loop-said g l = length l.bytes - l.at
