use Rattle.std.proofs.Common.{rules, ap, ◌∙◌, arith}
use Rattle.comparison.specs.Search.{mask_of, relation_of, turned}
use Rattle.comparison.proofs.Masks.{filled_written, turned_table}
use Rattle.comparison.proofs.relation.columns.Goals as goal

pub returns : goal.returns
returns c =
    let R = turned (relation_of c.args.rows.now) in
    ap relation_of (c.write_first.ensures (mask_of 64 R) (λ q x h k. search rules))
    ∙ turned_table _ _ c.told-rows c.fits-rows (filled_written 64 64 64 R (omega arith))
