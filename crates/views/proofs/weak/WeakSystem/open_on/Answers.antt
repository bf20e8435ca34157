use Rattle.std.proofs.Common.{ℕ, Bool, rules, sym, ◌∙◌, arith}
use Rattle.std.proofs.lemmas.Bool.{le-ltb}
use Rattle.systems.specs.Sets.{set_of}
use Rattle.systems.proofs.Sets.{set_of_low, guarded_false}
use Rattle.views.specs.Weak.{in_rows, overlap, view_moves, view_marks}
use Rattle.views.proofs.Viewing.{marks_found, marks_all}
use Rattle.views.proofs.weak.WeakSystem.open_on.Goals as goal

pub returns-then-p-states : goal.returns-then-p-states
unfolding view_marks
returns-then-p-states g c = sym (guarded_false 32 _ _ (le-ltb c.args.p _ (omega arith)))

pub returns-then-contains : goal.returns-then-contains
returns-then-contains g c =
    let w = c.args.self.now in
    c.actions_below.ensures
    ∙ marks_all (g.S.System.meaning w.below) (g.met.S.System.bounded w.below) w.closure w.diverging c.args.p _ c.actions-actions.ensures (omega arith)
    (sym c.contains.ensures ∙ c.if-contains.true)

pub returns : goal.returns
returns g c =
    let w = c.args.self.now in
    let m = g.S.System.meaning w.below in
    let onward : ℕ → Bool = λ a. overlap (set_of 64 (view_moves m (in_rows w.closure) c.args.p a)) w.diverging in
    c.as_actions.ensures ∙ set_of_low 32 64 _ _ (omega arith) (c.set_where.ensures onward (λ a b h q. search rules))
    ∙ marks_found m (g.met.S.System.bounded w.below) w.closure w.diverging c.args.p _ c.actions-actions.ensures (omega arith) (sym c.contains.ensures ∙ c.if-contains.false)
