use Rattle.std.proofs.Common.{ℕ, replicate, rules, ap, ◌∙◌}
use Rattle.systems.specs.Cells.{written}
use Rattle.comparison.specs.Search.{from_round, mask_of, relation_of}
use Rattle.comparison.specs.Sheet.{cells_of}
use Rattle.comparison.proofs.Masks.{filled_written, related_table}
use Rattle.comparison.proofs.relation.related_rows.Goals as goal

pub returns : goal.returns
returns c =
    let R = from_round c.args.k (cells_of c.args.grid.width c.args.sheet.now) in
    ap relation_of (c.write_first.ensures (mask_of c.args.grid.width R) (λ p x h k. search rules))
    ∙ ap (λ (n : ℕ). relation_of (written n (mask_of c.args.grid.width R) (replicate 64 0))) c.from.ensures
    ∙ related_table _ _ _ _ _ c.requires.1 (filled_written 64 _ _ R c.requires.0)
