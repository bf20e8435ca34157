-- What each call on a comparison answers, and what the sheet holds after it.
use Rattle.std.specs.Prelude.{◌≡◌, ℕ, zero, suc, ◌+◌, ◌*◌, Bool, false, cond, not, ◌&&◌, ◌||◌, List, length, Some, None, Ok, Err, Option, Result, ◌==◌, nat_le, nat_lt}
use Rattle.systems.specs.Meaning.{Meaning}
use Rattle.preorder.specs.Strikes.{opened, rounded, newly_struck}
use Rattle.comparison.specs.declared.refusal.Refusal.{Refusal}
use Rattle.comparison.specs.declared.refusal.Refusal.TheVariants.{ActionsDiffer, OtherSystems, SheetShort, AfterStill, RoundsSpent, Undecided}
use Rattle.comparison.specs.declared.refusal.Refused.{Refused}
use Rattle.comparison.specs.declared.strike.Strike.{Strike}
use Rattle.comparison.specs.declared.stage.Shape.{Shape}
use Rattle.comparison.specs.declared.stage.Open.{Open}
use Rattle.comparison.specs.declared.stage.Verdict.{Verdict}
use Rattle.comparison.specs.Sheet.{cells_of, holding}

-- the counts and starts of two systems that a call is handed
pub record Handed : Type 0 where
  pub first_states : ℕ
  pub first_actions : ℕ
  pub first_start : ℕ
  pub second_states : ℕ
  pub second_actions : ℕ
  pub second_start : ℕ

abbrev pub handed : {L : Type 0} → Meaning L → Meaning L → Handed
handed m n = record {
  first_states = m.states;
  first_actions = m.actions;
  first_start = m.start;
  second_states = n.states;
  second_actions = n.actions;
  second_start = n.start;
}

-- ---- opening

-- the comparison that an accepted opening begins
abbrev pub begun : Handed → Open
begun h = record {
  shape = record {
    first_states = h.first_states;
    second_states = h.second_states;
    «actions» = h.first_actions;
    first_start = h.first_start;
    second_start = h.second_start;
  };
  rounds = 0;
  still = false;
}

-- why an opening is refused, by what it is handed and how many cells the sheet has
unfoldable pub opening_refusal : Handed → ℕ → Option Refusal
opening_refusal h cells =
    cond (not (h.first_actions == h.second_actions)) (Some ActionsDiffer)
    (cond (nat_lt cells (h.first_states * h.second_states)) (Some SheetShort) None)

abbrev pub RefusesOpening : Handed → ℕ → Refusal → Type 0
RefusesOpening h cells e = opening_refusal h cells ≡ Some e

-- ---- a round

-- how many rounds a comparison may do
abbrev pub most_rounds : ℕ
most_rounds = 4097

abbrev pub fits : Shape → Handed → Bool
fits s h =
    (h.first_states == s.first_states && h.second_states == s.second_states)
    && (h.first_actions == s.«actions» && h.second_actions == s.«actions»)
    && (h.first_start == s.first_start && h.second_start == s.second_start)

abbrev pub pairs : Shape → ℕ
pairs s = s.first_states * s.second_states

-- why a round or a run is refused
unfoldable pub round_refusal : Open → Handed → ℕ → Option Refusal
round_refusal c h cells =
    cond (not (fits c.shape h)) (Some OtherSystems)
    (cond (nat_lt cells (pairs c.shape)) (Some SheetShort)
    (cond c.still (Some AfterStill)
    (cond (nat_le most_rounds c.rounds) (Some RoundsSpent) None)))

-- a refusal gives the comparison back
abbrev pub RefusesRound : Open → Handed → ℕ → Refused → Type 0
RefusesRound c h cells x = (round_refusal c h cells ≡ Some x.refusal) × (x.comparison ≡ c)

-- a round or a run that is not refused hands the comparison on
abbrev pub TakesRound : Open → Handed → ℕ → Result Open Refused → Type 0
TakesRound c h cells (Ok d) = (round_refusal c h cells ≡ None) × (d ≡ c)
TakesRound c h cells (Err x) = RefusesRound c h cells x

-- the comparison after one more round that struck so many pairs
abbrev pub one_more : Open → ℕ → Open
one_more c struck = record { shape = c.shape; rounds = c.rounds + 1; still = (struck == 0) }

-- ---- closing

-- whether the pair of both starts is struck after the rounds done
abbrev pub start_struck : Open → List Strike → Bool
start_struck c sheet = nat_le (cells_of c.shape.second_states sheet c.shape.first_start c.shape.second_start).round c.rounds

-- no if the start pair is struck, else yes if the last round was still
unfoldable pub closing : Open → List Strike → Result Verdict Refusal
closing c sheet =
    cond (nat_lt (length sheet) (pairs c.shape)) (Err SheetShort)
    (cond (start_struck c sheet) (Ok (Verdict.No (record { shape = c.shape; rounds = c.rounds })))
    (cond c.still (Ok (Verdict.Yes (record { shape = c.shape; rounds = c.rounds }))) (Err Undecided)))

-- Closing writes nothing; a refusal gives the comparison back.
abbrev pub Closes : Open → List Strike → Result Verdict Refused → Type 0
Closes c sheet (Ok v) = closing c sheet ≡ Ok v
Closes c sheet (Err x) = (closing c sheet ≡ Err x.refusal) × (x.comparison ≡ c)

-- ---- what the calls that are handed two systems do

module _ {L : Type 0} (below : L → L → Bool) (m n : Meaning L) where
  -- Opening: an accepted one strikes the pairs whose labels fail and makes the others unstruck.
  unfoldable pub Opens : List Strike → Result Open Refusal → List Strike → Type 0
  Opens before (Ok c) after =
      (opening_refusal (handed m n) (length before) ≡ None) × (c ≡ begun (handed m n))
      × (after ≡ holding m.states n.states (opened below m n) before)
  Opens before (Err e) after = RefusesOpening (handed m n) (length before) e × (after ≡ before)

  -- the pairs that the comparison's next round strikes on a sheet, and the sheet after it
  abbrev pub round_strikes : ℕ → List Strike → ℕ
  round_strikes rounds sheet = newly_struck below m n (rounds + 1) (cells_of n.states sheet)

  abbrev pub round_sheet : ℕ → List Strike → List Strike
  round_sheet rounds sheet = holding m.states n.states (rounded below m n (rounds + 1) (cells_of n.states sheet)) sheet

  -- A round answers how many pairs it struck.
  unfoldable pub Rounds : Open → List Strike → Result (Open × ℕ) Refused → List Strike → Type 0
  Rounds c before (Ok a) after =
      (round_refusal c (handed m n) (length before) ≡ None) × (a.1 ≡ round_strikes c.rounds before)
      × (a.0 ≡ one_more c (round_strikes c.rounds before)) × (after ≡ round_sheet c.rounds before)
  Rounds c before (Err x) after = RefusesRound c (handed m n) (length before) x × (after ≡ before)

  -- where a run is: the comparison, the sheet, the rounds done so far and the pairs struck so far
  pub record Progress : Type 0 where
    pub stage : Open
    pub sheet : List Strike
    pub done : ℕ
    pub struck : ℕ

  -- one round more; none once a round was still or all rounds that there may be are done
  abbrev pub advanced : Progress → Progress
  advanced r =
      cond (r.stage.still || nat_le most_rounds r.stage.rounds) r
      (record {
        stage = one_more r.stage (round_strikes r.stage.rounds r.sheet);
        sheet = round_sheet r.stage.rounds r.sheet;
        done = r.done + 1;
        struck = r.struck + round_strikes r.stage.rounds r.sheet;
      })

  -- a run with an allowance of rounds
  unfoldable pub run_to : ℕ → Progress → Progress
  run_to zero r = r
  run_to (suc allowance) r = run_to allowance (advanced r)

  unfoldable pub run : ℕ → Open → List Strike → Progress
  run allowance c sheet = run_to allowance (record { stage = c; sheet = sheet; done = 0; struck = 0 })

  -- A run answers the rounds that it did and the pairs that it struck.
  unfoldable pub Runs : ℕ → Open → List Strike → Result (Open × (ℕ × ℕ)) Refused → List Strike → Type 0
  Runs allowance c before (Ok a) after =
      (round_refusal c (handed m n) (length before) ≡ None) × (a.0 ≡ (run allowance c before).stage)
      × (a.1.0 ≡ (run allowance c before).done) × (a.1.1 ≡ (run allowance c before).struck)
      × (after ≡ (run allowance c before).sheet)
  Runs allowance c before (Err x) after = RefusesRound c (handed m n) (length before) x × (after ≡ before)
