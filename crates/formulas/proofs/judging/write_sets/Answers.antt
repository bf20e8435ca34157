use Rattle.std.proofs.Common.{sym, arith}
use Rattle.std.proofs.lemmas.List.{length-take-le}
use Rattle.formulas.proofs.Sheets.{faultless}
use Rattle.formulas.proofs.Judgements.{judged_none, judged_more}
use Rattle.formulas.proofs.judging.write_sets.Goals as goal

pub loop-i-init : goal.loop-i-init
loop-i-init g c =
    let s = c.args.system.now in
    sym (judged_none g.L.Label.below (g.S.System.meaning s) (g.met.S.System.bounded s) c.args.answers.now)

pub node_states-requires : goal.node_states-requires
node_states-requires g c =
    rw (length-take-le c.loop-i.i c.loop-i.answers (omega arith))
    (faultless _ c.args.nodes.now c.requires.0 c.loop-i.i c.index-nodes-i.result c.loop-i-test.true c.index-nodes-i.is)

pub loop-i-preserved : goal.loop-i-preserved
loop-i-preserved g c =
    let s = c.args.system.now in
    judged_more g.L.Label.below (g.S.System.meaning s) (g.met.S.System.bounded s) c.args.nodes.now c.args.answers.now c.loop-i.i c.index-nodes-i.result
    c.loop-i-test.true c.requires.1 c.index-nodes-i.is
    (faultless _ c.args.nodes.now c.requires.0 c.loop-i.i c.index-nodes-i.result c.loop-i-test.true c.index-nodes-i.is)
    c.loop-i.invariant c.node_states.ensures
