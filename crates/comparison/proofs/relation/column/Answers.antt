use Rattle.std.proofs.Common.{rules}
use Rattle.comparison.specs.Search.{mask_of, relation_of, turned}
use Rattle.comparison.proofs.relation.column.Goals as goal

pub returns : goal.returns
unfolding mask_of relation_of turned
returns c = c.set_where.ensures (turned (relation_of c.args.rows.now) c.args.q) (λ i b h p. search rules)
