use Rattle.std.proofs.Common.{rules}
use Rattle.comparison.specs.Search.{lowest, relation_of, unmatched}
use Rattle.comparison.proofs.Searches.{back_found}
use Rattle.comparison.proofs.striking.Round.back.Goals as goal

pub returns : goal.returns
returns g c =
    let m = g.A.System.meaning c.args.self.now.first.now in
    let n = g.B.System.meaning c.args.self.now.second.now in
    back_found _ _ _ _ _ _ _ c.actions.ensures
    (c.first_of.ensures (λ a. lowest n.states (unmatched m n (relation_of c.args.self.now.related.rows) c.args.p c.args.q a)) (λ a o k. search rules))
