use Rattle.std.proofs.Common.{ℕ, refl, rules}
use Rattle.std.specs.Option.{option_map}
use Rattle.comparison.specs.declared.reasons.Reason.{Reason}
use Rattle.comparison.proofs.Searches.{find_map_first}
use Rattle.comparison.proofs.reasons.first_of.Goals as goal

pub returns : goal.returns
returns g c = λ T says.
    find_map_first _ refl _ (λ a. option_map {U = Reason} (λ (t : ℕ). record { kind = c.args.kind; action = a; target = t }) (T a)) _ c.find_map.ensures.runs (λ x o q k. search (rules, says))
