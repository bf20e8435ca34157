use Rattle.std.proofs.Common.{◌≡◌, ℕ, ◌^◌, ◌<◌, ◌&&◌, eqb, List, get_or, ◌∙◌, arith, rules, tests}
use lib.Bits.{bit_and}
use Rattle.systems.specs.Meaning.{Meaning, Bounded}
use Rattle.systems.specs.Sets.{has, set_of}
use Rattle.preorder.specs.Reason.{unanswered}
use Rattle.comparison.specs.Search.{lowest, relation_of}
use Rattle.comparison.proofs.Searches.{lost_is, lowest_same}
use Rattle.comparison.proofs.moves.unanswered.Goals as goal

-- the test of the code, by what was read
by_masks : {L : Type 0} (mover other : Meaning L) → Bounded mover → Bounded other → (masks : List ℕ) (p q a n reached answers : ℕ) → ((t : ℕ) → get_or masks t 0 < 2 ^ 64)
    → n ≡ mover.states → reached ≡ set_of 64 (mover.moves p a) → answers ≡ set_of 64 (other.moves q a)
    → lowest n (λ t. has reached t && eqb (bit_and (get_or masks t 0) answers) 0) ≡ lowest mover.states (unanswered mover other (relation_of masks) p q a)
by_masks mover other bm bo masks p q a n reached answers small all from to =
    rw (all, from, to) (lowest_same _ _ mover.states (λ t h. lost_is mover other bo masks p q a t (omega (arith, bm.few_states)) (small t)))

pub returns : goal.returns
returns g c =
    c.lowest_where.ensures (λ t. has c.reach-reached.result t && eqb (bit_and (get_or c.args.related.now t 0) c.reach-answers.result) 0) (λ t b h k. search (rules, tests))
    ∙ by_masks _ _ (g.met.M.System.bounded _) (g.met.O.System.bounded _) _ _ _ _ _ _ _ (λ t. (c.type_inv.related t).fits) c.states.ensures c.reach-reached.ensures c.reach-answers.ensures
