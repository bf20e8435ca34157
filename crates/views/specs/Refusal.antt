-- The numbers of the causes of a refusal.
use Rattle.std.specs.Prelude.{ℕ}
use Rattle.views.specs.declared.refusal.Refusal.{Refusal}
use Rattle.views.specs.declared.refusal.Refusal.TheVariants.{SheetShort}

abbrev pub refusal_number : Refusal → ℕ
refusal_number SheetShort = 33
