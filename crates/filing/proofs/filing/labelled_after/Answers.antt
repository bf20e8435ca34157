use Rattle.std.proofs.Common.{rules}
use Rattle.filing.proofs.Says.{none_more}
use Rattle.filing.proofs.filing.labelled_after.Goals as goal

pub returns-in-Move : goal.returns-in-Move
returns-in-Move g c = let same = none_more c.args.labelled c.ranges.labelled.fits in search rules

pub returns-in-Open : goal.returns-in-Open
returns-in-Open g c = let same = none_more c.args.labelled c.ranges.labelled.fits in search rules
