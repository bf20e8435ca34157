use Rattle.std.proofs.lemmas.Result.{err_from_is_err_and}
use Rattle.comparison.specs.Calls.{Opens}
use Rattle.comparison.specs.Settling.{Settles}
use Rattle.comparison.proofs.Settled.{run_not_refused, close_not_refused, settled}
use Rattle.comparison.proofs.settling.settle.Goals as goal

pub returns-in_err-opened : goal.returns-in_err-opened
unfolding Settles Opens
returns-in_err-opened g c =
    let p = err_from_is_err_and c.from_residual.result c.from_residual.ensures.1 in
    rw (p.1, p.2) c.in_err-opened.ensures.step

pub unreachable-requires : goal.unreachable-requires
unreachable-requires g c =
    run_not_refused _ _ _ g.met.L.Label.order (g.met.A.System.bounded c.args.first.now) (g.met.B.System.bounded c.args.second.now) _
    _ _ _ _ _ c.in_ok-opened.ensures.step c.in_default.ensures

pub unreachable-requires-in_default-close : goal.unreachable-requires-in_default-close
unreachable-requires-in_default-close g c =
    close_not_refused _ _ _ g.met.L.Label.order (g.met.A.System.bounded c.args.first.now) (g.met.B.System.bounded c.args.second.now) _
    _ _ _ _ _ _ c.from.ensures c.in_ok-opened.ensures.step c.in-Ok.ensures c.in_default-close.ensures

pub returns : goal.returns
returns g c =
    settled _ _ _ g.met.L.Label.order (g.met.A.System.bounded c.args.first.now) (g.met.B.System.bounded c.args.second.now) _
    _ _ _ _ _ _ c.from.ensures c.in_ok-opened.ensures.step c.in-Ok.ensures c.in-Ok-close.ensures
