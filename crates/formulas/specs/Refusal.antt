-- The number of each cause of refusal.
use Rattle.std.specs.Prelude.{ℕ}
use Rattle.formulas.specs.declared.refusal.Refusal.{Refusal}
use Rattle.formulas.specs.declared.refusal.Refusal.TheVariants.{Node, AnswersShort}

abbrev pub refusal_number : Refusal → ℕ
refusal_number (Node i) = 51
refusal_number AnswersShort = 52
