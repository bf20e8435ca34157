use Rattle.views.proofs.Comparing.{open_law}
use Rattle.views.proofs.laws.open_layers_compare_by_simulation.Goals as goal

pub returns : goal.returns
returns g c = open_law g.L.Label.below
