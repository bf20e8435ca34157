use Rattle.std.proofs.Common.{◌≡◌, ap, sym, ◌∙◌, arith}
use Rattle.systems.specs.Sets.{has, set_of}
use Rattle.views.specs.Weak.{leads}
use Rattle.views.proofs.Rows.{leads_none, leads_with, leads_without}
use Rattle.views.proofs.closure.union_of.Goals as goal
use Rattle.views.proofs.closure.union_of.Goals.{then-contains, else-contains}

pub loop-q-init : goal.loop-q-init
loop-q-init g c = λ R h. leads_none (has c.args.set) R

pub loop-q-preserved : goal.loop-q-preserved
loop-q-preserved g c = λ R h.
    elim c.if-contains.branch [
      | then-contains w ↦ let e = sym c.contains.ensures ∙ w.if-contains.true in w.found-is ∙ leads_with _ R c.loop-q.q _ _ e (c.loop-q.invariant R h) (h _ _ c.loop-q-test.true e w.row-found.ensures)
      | else-contains w ↦ w.found-is ∙ leads_without _ R c.loop-q.q _ (sym c.contains.ensures ∙ w.if-contains.false) (c.loop-q.invariant R h)
    ]

pub returns : goal.returns
returns g c = λ R h. let done : c.loop-q.q ≡ c.args.n = omega arith in c.loop-q.invariant R h ∙ ap (λ n. set_of 64 (leads n (has c.args.set) R)) done
