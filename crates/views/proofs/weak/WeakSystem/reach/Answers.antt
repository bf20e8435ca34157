use Rattle.std.proofs.Common.{rules, sym, ◌≡◌, false, ◌&&◌, ltb, ap, ◌∙◌, arith}
use lib.Bits.{bit_and}
use Rattle.std.proofs.lemmas.Bool.{le-ltb, and_left, and_right}
use Rattle.systems.specs.Sets.{set_of}
use Rattle.systems.proofs.Sets.{guarded_false}
use Rattle.views.specs.Weak.{in_rows, leads, comes, view_moves}
use Rattle.views.proofs.Viewing.{comes-silent, comes_onward, moves_found}
use Rattle.views.proofs.weak.WeakSystem.reach.Goals as goal
use Rattle.views.proofs.weak.WeakSystem.reach.Goals.{then-p-states-via-then-p-states, then-p-states-via-else-p-states+then-a-actions, then-a-eq0, else-a-eq0}

pub returns-then-p-states : goal.returns-then-p-states
unfolding view_moves
returns-then-p-states g c =
    let m = g.S.System.meaning c.args.self.now.below in
    let absent : (ltb c.args.p m.states && ltb c.args.a m.actions) ≡ false =
    elim c.then-p-states.branch [
      | then-p-states-via-then-p-states w ↦ and_left _ _ (le-ltb c.args.p _ (omega (arith, w.if-p-states.true)))
      | then-p-states-via-else-p-states+then-a-actions w ↦ and_right _ _ (le-ltb c.args.a _ (omega (arith, w.if-a-actions.true, w.actions.ensures)))
    ] in
    sym (guarded_false 64 _ _ absent)

pub returns : goal.returns
returns g c =
    let x = c.args in
    let m = g.S.System.meaning x.self.now.below in
    let b = g.met.S.System.bounded x.self.now.below in
    let rows = x.self.now.closure in
    let reached : c.if-a-eq0.reached ≡ set_of 64 (comes m (in_rows rows) x.p x.a) =
    elim c.if-a-eq0.branch [
      | then-a-eq0 w ↦ w.reached-is ∙ comes-silent m b rows x.p x.a (omega arith) w.if-a-eq0.true
      | else-a-eq0 w ↦ w.reached-is ∙ w.join-reached.ensures ∙ comes_onward m b rows _ x.p x.a _ c.states-states.ensures w.if-a-eq0.false (w.union_of-onward.ensures (λ q. m.moves q x.a) (λ q n h e p. search rules) ∙ ap (λ k. set_of 64 (leads k (in_rows rows x.p) (λ q. m.moves q x.a))) c.states-states.ensures)
    ] in
    ap (bit_and c.if-a-eq0.reached) c.all_below.ensures
    ∙ moves_found m b rows _ x.p x.a _ c.states-states.ensures (omega arith) (omega arith) reached
