use Rattle.std.proofs.Common.{refl}
use Rattle.views.proofs.Tables.{tables_faithful}
use Rattle.views.proofs.tabled.over.Goals as goal

pub returns : goal.returns
returns g c = record {
  shape_held = refl;
  moves_held = refl;
  marks_held = refl;
  labels_held = refl;
  faithful = λ m b held. tables_faithful m b _ _ _ _ _ held;
}
