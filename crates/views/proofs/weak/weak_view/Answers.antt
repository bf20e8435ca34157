use Rattle.views.proofs.Viewing.{view_is_weak}
use Rattle.views.proofs.weak.weak_view.Goals as goal

pub returns-clause-view : goal.returns-clause-view
returns-clause-view g c =
    view_is_weak (g.S.System.meaning c.args.below) (g.met.S.System.bounded c.args.below) _ _ c.closure-closure.ensures c.diverging_states-diverging.ensures
