use Rattle.std.proofs.Common.{◌≡◌, refl, inl, inr, arith}
use Rattle.std.proofs.lemmas.Bool.{le-leb, or_left, or_right}
use Rattle.std.proofs.lemmas.Result.{err_from_is_err_and}
use Rattle.comparison.specs.Calls.{Runs}
use Rattle.comparison.proofs.CallLaws.{accepted_few}
use Rattle.comparison.proofs.Running.{running_starts, running_more, run_answers, strikes_few}
use Rattle.comparison.proofs.run.run.Goals as goal

pub returns-in_err-stage : goal.returns-in_err-stage
unfolding Runs
returns-in_err-stage g c =
    let p = err_from_is_err_and c.from_residual.result c.from_residual.ensures.1 in
    rw (p.1, p.2) (c.in_err-stage.ensures, refl)

pub loop-done-init : goal.loop-done-init
loop-done-init g c =
    let few = accepted_few _ _ _ _ c.in_ok-stage.ensures in
    running_starts _ _ _ c.args.allowance _ _ (omega arith)

pub overflow_add-struck : goal.overflow_add-struck
overflow_add-struck g c =
    let few = strikes_few _ _ _ (g.met.A.System.bounded _) (g.met.B.System.bounded _) _ _ _ c.loop-done.invariant in
    let more = c.advance-more.ensures.struck in
    omega arith

pub loop-done-preserved : goal.loop-done-preserved
loop-done-preserved g c =
    running_more _ _ _ (g.met.A.System.bounded _) (g.met.B.System.bounded _) c.args.allowance _ _ c.loop-done.invariant _ _ _
    (omega arith) c.if-stage.false (omega arith) c.advance-more.ensures.stage c.advance-more.ensures.struck c.advance-more.ensures.cells

pub returns-then-stage : goal.returns-then-stage
returns-then-stage g c =
    run_answers _ _ _ (g.met.A.System.bounded _) (g.met.B.System.bounded _) _ _ _ _ _ c.in_ok-stage.ensures c.loop-done.invariant
    (inr (elim c.then-stage.either [ inl still ↦ or_left _ _ still | inr spent ↦ or_right c.loop-done.stage.still _ (le-leb 4097 _ spent.1) ]))

pub returns : goal.returns
returns g c =
    let all : c.loop-done.done ≡ c.args.allowance = omega arith in
    run_answers _ _ _ (g.met.A.System.bounded _) (g.met.B.System.bounded _) _ _ _ _ _ c.in_ok-stage.ensures (rw all at c.loop-done.invariant) (inl refl)
