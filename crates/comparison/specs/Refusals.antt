-- The numbers of the refusals.
use Rattle.std.specs.Prelude.{ℕ}
use Rattle.comparison.specs.declared.refusal.Refusal.{Refusal}
use Rattle.comparison.specs.declared.refusal.Refusal.TheVariants.{ActionsDiffer, OtherSystems, SheetShort, AfterStill, RoundsSpent, Undecided}

abbrev pub refusal_number : Refusal → ℕ
-- opening: the action counts differ
refusal_number ActionsDiffer = 20
-- the systems' counts or starts are not this comparison's
refusal_number OtherSystems = 21
-- the strike sheet has fewer cells than there are pairs
refusal_number SheetShort = 22
-- a round or run after a still round
refusal_number AfterStill = 23
-- closing: the start pair is unstruck and the last round was not still
refusal_number Undecided = 24
-- a round or run after 4,097 rounds
refusal_number RoundsSpent = 25
