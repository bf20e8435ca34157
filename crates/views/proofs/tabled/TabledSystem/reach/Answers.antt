use Rattle.std.proofs.Common.{◌≡◌, ◌^◌, ◌<◌, false, ◌&&◌, ltb, sym, ◌∙◌, subst, ap₂, arith}
use lib.Bits.{bit_and}
use Rattle.std.proofs.lemmas.Bool.{lt-ltb, le-ltb, and_from, and_left, and_right}
use Rattle.systems.proofs.Sets.{set_of_meet, guarded_true, guarded_false}
use Rattle.views.proofs.tabled.TabledSystem.reach.Goals as goal
use Rattle.views.proofs.tabled.TabledSystem.reach.Goals.{then-p-self-via-then-p-self, then-p-self-via-else-p-self+then-a-self}

pub returns-then-p-self : goal.returns-then-p-self
returns-then-p-self g c = sym (guarded_false 64 _ _ absent)
  where
    absent : (ltb c.args.p c.args.self.now.shape.states && ltb c.args.a c.args.self.now.shape.actions) ≡ false
    absent =
        elim c.then-p-self.branch [
          | then-p-self-via-then-p-self w ↦ and_left _ _ (le-ltb c.args.p _ w.if-p-self.true)
          | then-p-self-via-else-p-self+then-a-self w ↦ and_right _ _ (le-ltb c.args.a _ w.if-a-self.true)
        ]

pub returns : goal.returns
returns g c =
    let met : bit_and c.cell_or.result c.all_below.result ≡ _ = ap₂ bit_and c.cell_or.ensures c.all_below.ensures in
    met ∙ set_of_meet 64 _ _ (subst (λ x. x < 2 ^ 64) c.cell_or.ensures c.cell_or.type_inv)
    ∙ sym (guarded_true 64 _ _ (and_from _ _ (lt-ltb c.args.p _ (omega arith)) (lt-ltb c.args.a _ (omega arith))))
