use Rattle.std.proofs.Common.{rules, ◌≡◌, ◌∙◌, get_or, ℕ, Bool}
use Rattle.systems.specs.Sets.{has, set_of}
use Rattle.views.specs.Weak.{in_rows, overlap, leads, loops}
use Rattle.views.proofs.Rows.{loops_found, diverging_found}
use Rattle.views.proofs.closure.diverging_states.Goals as goal

pub returns : goal.returns
returns g c =
    let m = g.S.System.meaning c.args.below.now in
    let b = g.met.S.System.bounded c.args.below.now in
    let rows = c.args.rows.now in
    let n = c.states-states.result in
    let loop : ℕ → Bool = λ t. has (set_of 64 (leads n (has (set_of 64 (m.moves t 0))) (in_rows rows))) t in
    let diverge : ℕ → Bool = λ p. overlap (get_or rows p 0) c.set_where-loops.result in
    let looping : c.set_where-loops.result ≡ set_of 64 (loops m) = c.set_where-loops.ensures loop (λ t b h p. search rules) ∙ loops_found m b rows c.requires n c.states-states.ensures in
    c.set_where.ensures diverge (λ p b h q. search rules) ∙ diverging_found m b rows c.requires n c.states-states.ensures _ looping
