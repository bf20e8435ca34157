-- Settling: an opening, a run with an allowance of as many rounds as there may be, and closing.
use Rattle.std.specs.Prelude.{◌≡◌, Bool, List, length, None, Ok, Err, Decides, Result}
use Rattle.systems.specs.Meaning.{Meaning}
use Rattle.preorder.specs.Strikes.{opened}
use Rattle.comparison.specs.declared.refusal.Refusal.{Refusal}
use Rattle.comparison.specs.declared.settling.Settled.{Settled}
use Rattle.comparison.specs.declared.strike.Strike.{Strike}
use Rattle.comparison.specs.Calls.{Progress, handed, begun, opening_refusal, RefusesOpening, most_rounds, run, closing}
use Rattle.comparison.specs.History.{says_yes, StartRelated}
use Rattle.comparison.specs.Sheet.{holding}

module _ {L : Type 0} (below : L → L → Bool) (m n : Meaning L) where
  -- the sheet after the opening, and the run from there
  abbrev pub opened_sheet : List Strike → List Strike
  opened_sheet before = holding m.states n.states (opened below m n) before

  abbrev pub opened_run : List Strike → Progress below m n
  opened_run before = run below m n most_rounds (begun (handed m n)) (opened_sheet before)

  -- It is refused only as the opening is. Otherwise it answers, and says yes exactly if some prebisimulation holds the pair of
  -- both starts.
  unfoldable pub Settles : List Strike → Result Settled Refusal → List Strike → Type 0
  Settles before (Ok s) after =
      (opening_refusal (handed m n) (length before) ≡ None)
      × (closing (opened_run before).stage (opened_run before).sheet ≡ Ok s.verdict)
      × Decides (says_yes s.verdict) (StartRelated below m n)
      × (s.rounds ≡ (opened_run before).done) × (s.struck ≡ (opened_run before).struck)
      × (after ≡ (opened_run before).sheet)
  Settles before (Err e) after = RefusesOpening (handed m n) (length before) e × (after ≡ before)
