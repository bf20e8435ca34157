use Rattle.std.proofs.Common.{◌∙◌, arith}
use Rattle.systems.proofs.Sets.{set_of_low}
use Rattle.views.proofs.sets.actions_below.Goals as goal

pub returns : goal.returns
returns c = c.as_actions.ensures ∙ set_of_low 32 64 _ _ (omega arith) c.all_below.ensures
