use Rattle.std.proofs.Common.{Option, unwrap_or, ap, ◌∙◌}
use Rattle.std.proofs.lemmas.Option.{unwrap_or-slice_get}
use Rattle.comparison.specs.declared.strike.Strike.{Strike}
use Rattle.comparison.specs.Sheet.{cells_of, blank_strike}
use Rattle.comparison.proofs.strike.strike_at.Goals as goal

pub returns : goal.returns
unfolding cells_of
returns c =
    c.unwrap_or.ensures ∙ ap (λ (o : Option Strike). unwrap_or o blank_strike) c.get.ensures ∙ unwrap_or-slice_get c.args.sheet.now _ blank_strike
