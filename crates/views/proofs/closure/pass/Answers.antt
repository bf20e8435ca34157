use Rattle.std.proofs.Common.{arith}
use Rattle.std.proofs.lemmas.List.{length-take-le}
use Rattle.views.proofs.Rows.{passed_part}
use Rattle.views.proofs.closure.pass.Goals as goal

pub returns : goal.returns
returns c =
    let n = c.args.n in
    let rows = c.args.rows.now in
    let part = length-take-le n rows (omega (arith, c.requires, c.told-rows)) in
    passed_part rows c.loop-row.row-items n c.args.k c.requires.1 c.told-rows (omega (arith, c.loop-row.auto.row-items, part))
    (λ p l. c.loop-row.invariant.done p (omega (arith, c.loop-row-test.false, part)))
