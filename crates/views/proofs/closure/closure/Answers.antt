use Rattle.std.proofs.Common.{◌≡◌, ℕ, replicate, ap, rules, ◌∙◌, arith}
use Rattle.systems.specs.Cells.{written}
use Rattle.systems.specs.Sets.{set_of}
use Rattle.views.specs.Weak.{through, rows_through}
use Rattle.views.proofs.Rows.{rows_passed}
use Rattle.views.proofs.closure.closure.Goals as goal

pub loop-k-init : goal.loop-k-init
unfolding rows_through
loop-k-init g c =
    let m = g.S.System.meaning c.args.below.now in
    let first : ℕ → ℕ = λ p. set_of 64 (through m 0 p) in
    c.write_first.ensures first (λ p row h b. search rules) ∙ ap (λ n. written n first (replicate 64 0)) c.states-states.ensures

pub loop-k-preserved : goal.loop-k-preserved
loop-k-preserved g c =
    let m = g.S.System.meaning c.args.below.now in
    rows_passed m (g.met.S.System.bounded c.args.below.now) _ _ _ c.loop-k.k c.states-states.ensures (omega arith) c.loop-k.invariant c.pass.ensures

pub returns : goal.returns
returns g c = let done : c.loop-k.k ≡ (g.S.System.meaning c.args.below.now).states = omega arith in c.loop-k.invariant ∙ ap (λ k. rows_through (g.S.System.meaning c.args.below.now) k) done
