use Rattle.std.proofs.Common.{◌≡◌, sym, ◌∙◌, arith, below_more}
use Rattle.comparison.proofs.Searches.{lowest_none, lowest_some}
use Rattle.comparison.proofs.moves.lowest_where.Goals as goal

pub loop-i-preserved : goal.loop-i-preserved
loop-i-preserved g c = λ T h.
    below_more _ _ (c.loop-i.invariant T h) (sym (h c.loop-i.i c.test.result c.loop-i-test.true c.test.ensures) ∙ c.if-test.false)

pub returns-then-test : goal.returns-then-test
returns-then-test g c = λ T h.
    sym (lowest_some T c.args.n c.loop-i.i c.loop-i-test.true (c.loop-i.invariant T h) (sym (h c.loop-i.i c.test.result c.loop-i-test.true c.test.ensures) ∙ c.if-test.true))

pub returns : goal.returns
returns g c = λ T h. let done : c.loop-i.i ≡ c.args.n = omega arith in sym (lowest_none T c.args.n (rw done at c.loop-i.invariant T h))
