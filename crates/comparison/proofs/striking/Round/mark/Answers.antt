use Rattle.std.proofs.Common.{not, ◌&&◌, ◌∙◌, ap, rules, tests}
use Rattle.preorder.specs.Reason.{given}
use Rattle.comparison.proofs.Searches.{mark_found, opens_is}
use Rattle.comparison.proofs.striking.Round.mark.Goals as goal

pub returns : goal.returns
unfolding given
returns g c =
    let m = g.A.System.meaning c.args.self.now.first.now in
    let n = g.B.System.meaning c.args.self.now.second.now in
    mark_found _ _ _ _ _ _ _ c.actions.ensures
    (c.first_of.ensures (λ a. given (not (m.marks c.args.p a) && n.marks c.args.q a) 0) (λ a o k. search (rules, tests) ∙ ap (λ b. given b 0) (opens_is m n (g.met.A.System.bounded _) (g.met.B.System.bounded _) c.args.p c.args.q a c.open_on-first_open.ensures c.open_on-second_open.ensures)))
