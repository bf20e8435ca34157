use Rattle.std.proofs.Common.{get_or, sym, ◌∙◌}
use Rattle.systems.proofs.Sets.{set_of-has}
use Rattle.systems.specs.Sets.{has}
use Rattle.views.specs.Weak.{in_rows}
use Rattle.views.proofs.Rows.{leads_none, leads_with, leads_without}
use Rattle.views.proofs.closure.join.Goals as goal
use Rattle.views.proofs.closure.join.Goals.{then-contains, else-contains}

pub loop-q-init : goal.loop-q-init
loop-q-init c = leads_none (has c.args.set) (in_rows c.args.rows.now)

pub loop-q-preserved : goal.loop-q-preserved
loop-q-preserved c =
    let rows = c.args.rows.now in
    elim c.if-contains.branch [
      | then-contains w ↦ w.found-is ∙ leads_with _ (in_rows rows) c.loop-q.q _ _ (sym c.contains.ensures ∙ w.if-contains.true) c.loop-q.invariant (sym (set_of-has 64 (get_or rows c.loop-q.q 0) (c.fits-rows c.loop-q.q)))
      | else-contains w ↦ w.found-is ∙ leads_without _ (in_rows rows) c.loop-q.q _ (sym c.contains.ensures ∙ w.if-contains.false) c.loop-q.invariant
    ]
