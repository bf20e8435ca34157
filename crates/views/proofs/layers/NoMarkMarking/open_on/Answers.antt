use Rattle.std.proofs.Common.{sym}
use Rattle.systems.proofs.Sets.{set_of_none}
use Rattle.views.proofs.layers.NoMarkMarking.open_on.Goals as goal

pub returns : goal.returns
returns c = sym (set_of_none 32)
