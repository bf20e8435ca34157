use Rattle.std.proofs.Common.{◌≡◌, ℕ, ◌&&◌, nat_lt, ap, ◌∙◌, sym, arith}
use Rattle.systems.specs.Sets.{set_of}
use Rattle.systems.proofs.Sets.{front_none, set_more}
use Rattle.systems.proofs.masks.set_where.Goals as goal

pub loop-i-init : goal.loop-i-init
loop-i-init g c = λ T h. sym (front_none 64 T)

pub loop-i-preserved : goal.loop-i-preserved
loop-i-preserved g c = λ T h.
    c.insert_if-set.ensures ∙ set_more 64 c.loop-i.i c.loop-i.set T c.test.result (c.loop-i.invariant T h) (h c.loop-i.i c.test.result c.loop-i-test.true c.test.ensures)

pub returns : goal.returns
returns g c = λ T h. let done : c.loop-i.i ≡ c.args.n = omega arith in c.loop-i.invariant T h ∙ ap (λ (n : ℕ). set_of 64 (λ i. nat_lt i n && T i)) done
