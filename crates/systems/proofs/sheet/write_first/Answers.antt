use Rattle.std.proofs.Common.{◌∙◌, arith}
use Rattle.systems.proofs.Cells.{written_none, written_more, written_all}
use Rattle.systems.proofs.sheet.write_first.Goals as goal

pub loop-i-init : goal.loop-i-init
loop-i-init g c = λ f h. written_none f c.args.cells.now

pub loop-i-preserved : goal.loop-i-preserved
loop-i-preserved g c = λ f h.
    c.set_cell.ensures
    ∙ written_more f c.args.cells.now c.loop-i.i c.loop-i.cells c.value.result (c.loop-i.invariant f h) (h c.loop-i.i c.value.result c.loop-i-test.true c.value.ensures)

pub returns : goal.returns
returns g c = λ f h. written_all f c.args.cells.now c.loop-i.i c.args.n c.loop-i.cells (c.loop-i.invariant f h) (omega arith)
