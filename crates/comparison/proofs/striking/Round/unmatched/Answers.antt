use Rattle.std.proofs.Common.{◌≡◌, ℕ, true, false, None, sym, ap, ◌∙◌}
use lib.Bits.{bit_or}
use Rattle.std.proofs.lemmas.Bool.{or_parts}
use Rattle.systems.specs.Meaning.{Meaning, Bounded}
use Rattle.systems.specs.Sets.{has, set_of}
use Rattle.preorder.specs.Prebisimulation.{Relation}
use Rattle.preorder.specs.Reason.{unanswered}
use Rattle.comparison.specs.Search.{lowest, turned, unmatched}
use Rattle.comparison.proofs.Searches.{open_unmatched, closed_unmatched, either_open}
use Rattle.comparison.proofs.striking.Round.unmatched.Goals as goal

-- by whether the set of the actions that either state is open on has the action
module _ {L : Type 0} (m n : Meaning L) (bm : Bounded m) (bn : Bounded n) (R : Relation) (p q a set : ℕ)
    (either : set ≡ bit_or (set_of 32 (m.marks p)) (set_of 32 (n.marks q))) where
  when_open : has set a ≡ true → None ≡ lowest n.states (unmatched m n R p q a)
  when_open e = open_unmatched m n R p q a (sym (either_open m n bm bn p q a either) ∙ e)

  when_closed : (S : Relation) → S ≡ turned R → has set a ≡ false → lowest n.states (unanswered n m S q p a) ≡ lowest n.states (unmatched m n R p q a)
  when_closed S same e =
      let closed = or_parts _ _ (sym (either_open m n bm bn p q a either) ∙ e) in
      ap (lowest n.states) (closed_unmatched m n R p q S same a closed.0 closed.1)

pub returns-then-contains : goal.returns-then-contains
returns-then-contains g c =
    when_open _ _ (g.met.A.System.bounded _) (g.met.B.System.bounded _) _ _ _ _ _ (c.from.ensures ∙ c.requires) (sym c.contains.ensures ∙ c.if-contains.true)

pub returns : goal.returns
returns g c =
    c.unanswered.ensures
    ∙ when_closed _ _ (g.met.A.System.bounded _) (g.met.B.System.bounded _) _ _ _ _ _ (c.from.ensures ∙ c.requires) _ c.args.self.now.related.same
    (sym c.contains.ensures ∙ c.if-contains.false)
