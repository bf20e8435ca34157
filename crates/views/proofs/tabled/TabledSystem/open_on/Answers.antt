use Rattle.std.proofs.Common.{◌≡◌, ◌^◌, ◌<◌, sym, ◌∙◌, subst, ap₂, arith}
use lib.Bits.{bit_and}
use Rattle.std.proofs.lemmas.Bool.{lt-ltb, le-ltb}
use Rattle.systems.proofs.Sets.{set_of_meet, guarded_true, guarded_false}
use Rattle.views.proofs.tabled.TabledSystem.open_on.Goals as goal

pub returns-then-p-self : goal.returns-then-p-self
returns-then-p-self g c = sym (guarded_false 32 _ _ (le-ltb c.args.p _ (omega arith)))

pub returns : goal.returns
returns g c =
    let met : bit_and c.cell_or.result c.actions_below.result ≡ _ = ap₂ bit_and c.cell_or.ensures c.actions_below.ensures in
    met ∙ set_of_meet 32 _ _ (subst (λ x. x < 2 ^ 32) c.cell_or.ensures c.cell_or.type_inv)
    ∙ sym (guarded_true 32 _ _ (lt-ltb c.args.p _ (omega arith)))
