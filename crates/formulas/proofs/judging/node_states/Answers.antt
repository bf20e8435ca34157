use Rattle.std.proofs.Common.{rules}
use Rattle.formulas.specs.NodeSets.{can_enter, must_enter}
use Rattle.formulas.proofs.NodeSets.{states_where_is}
use Rattle.formulas.proofs.judging.node_states.Goals as goal

pub returns-in-Label : goal.returns-in-Label
returns-in-Label g c =
    rw c.in-Label.is (states_where_is (g.S.System.meaning c.args.system.now) _ c.states-in-Label.ensures (c.set_where.ensures _ (λ p b h k. search rules)))

pub returns-in-Diamond : goal.returns-in-Diamond
returns-in-Diamond g c =
    rw c.in-Diamond.is (states_where_is _ (can_enter _ _ _) c.states-in-Diamond.ensures (c.set_where-in-Diamond.ensures _ (λ p b h k. search rules)))

pub returns-in-Box : goal.returns-in-Box
returns-in-Box g c =
    rw c.in-Box.is (states_where_is _ (must_enter _ _ _) c.states-in-Box.ensures (c.set_where-in-Box.ensures _ (λ p b h k. search rules)))
