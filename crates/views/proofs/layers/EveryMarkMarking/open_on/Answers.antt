use Rattle.std.proofs.Common.{sym, ◌∙◌}
use Rattle.std.proofs.lemmas.Bool.{lt-ltb, le-ltb}
use Rattle.systems.proofs.Sets.{guarded_true, guarded_false}
use Rattle.views.specs.Layers.{present}
use Rattle.views.proofs.layers.EveryMarkMarking.open_on.Goals as goal

pub returns-then-p-states : goal.returns-then-p-states
unfolding present
returns-then-p-states c = c.actions_below.ensures ∙ sym (guarded_true 32 _ _ (lt-ltb c.args.p _ c.if-p-states.true))

pub returns-else-p-states : goal.returns-else-p-states
unfolding present
returns-else-p-states c = sym (guarded_false 32 _ _ (le-ltb c.args.p _ c.if-p-states.false))
