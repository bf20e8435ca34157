use Rattle.std.proofs.Common.{rules}
use Rattle.comparison.specs.Search.{lowest, relation_of}
use Rattle.preorder.specs.Reason.{unanswered}
use Rattle.comparison.proofs.Searches.{forth_found}
use Rattle.comparison.proofs.striking.Round.forth.Goals as goal

pub returns : goal.returns
returns g c =
    let m = g.A.System.meaning c.args.self.now.first.now in
    let n = g.B.System.meaning c.args.self.now.second.now in
    forth_found _ _ _ _ _ _ _ c.actions.ensures
    (c.first_of.ensures (λ a. lowest m.states (unanswered m n (relation_of c.args.self.now.related.rows) c.args.p c.args.q a)) (λ a o k. search rules))
