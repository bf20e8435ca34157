-- What a comparison promises over every history of calls.
use Rattle.std.specs.Prelude.{◌≡◌, ℕ, suc, ◌+◌, ◌*◌, ◌<◌, ◌≤◌, Bool, true, false, ◌⊎◌, ◌↔◌, List, Some, Ok, Err, Decides, ◌≢◌}
use Rattle.systems.specs.Meaning.{Meaning}
use Rattle.formulas.specs.Formula.{Formula, Satisfies, depth}
use Rattle.preorder.specs.Prebisimulation.{Relation, Prebisimulation, Approximant}
use Rattle.preorder.specs.Reason.{reason}
use Rattle.preorder.specs.Strikes.{Cells, blank, Struck, Unstruck, related}
use Rattle.preorder.specs.Unfolding.{Unfolds}
use Rattle.comparison.specs.declared.refusal.Refusal.{Refusal}
use Rattle.comparison.specs.declared.refusal.Refusal.TheVariants.{Undecided}
use Rattle.comparison.specs.declared.refusal.Refused.{Refused}
use Rattle.comparison.specs.declared.strike.Strike.{Strike}
use Rattle.comparison.specs.declared.stage.Open.{Open}
use Rattle.comparison.specs.declared.stage.Verdict.{Verdict}
use Rattle.comparison.specs.Calls.{Handed, Opens, Rounds, Runs, Closes, RefusesOpening, RefusesRound}
use Rattle.comparison.specs.Sheet.{cells_of}

-- a comparison is open, or closed as yes or as no
pub data Stage : Type 0 where
  is_open : Open → Stage
  is_closed : Verdict → Stage

abbrev pub says_yes : Verdict → Bool
says_yes (Verdict.Yes y) = true
says_yes (Verdict.No x) = false

-- the rounds that the comparison itself counts
abbrev pub rounds_of : Stage → ℕ
rounds_of (is_open c) = c.rounds
rounds_of (is_closed (Verdict.Yes y)) = y.rounds
rounds_of (is_closed (Verdict.No x)) = x.rounds

module _ {L : Type 0} (below : L → L → Bool) (m n : Meaning L) where
  -- Histories, by the rounds done, the sheet as it is and the stage: an accepted opening on a sheet of any content, then any
  -- list of calls. Accepted calls work on that sheet and these two systems; refused ones may have been handed others. A closed
  -- comparison takes no further call, so only refused openings follow.
  pub data History : ℕ → List Strike → Stage → Type 0 where
    after_opening : (before : List Strike) {after : List Strike} {c : Open} → Opens below m n before (Ok c) after → History 0 after (is_open c)
    after_round : {k : ℕ} {before after : List Strike} {c : Open} → History k before (is_open c)
        → (a : Open × ℕ) → Rounds below m n c before (Ok a) after → History (suc k) after (is_open a.0)
    after_run : {k : ℕ} {before after : List Strike} {c : Open} → History k before (is_open c)
        → (allowance : ℕ) (a : Open × (ℕ × ℕ)) → Runs below m n allowance c before (Ok a) after → History (k + a.1.0) after (is_open a.0)
    after_closing : {k : ℕ} {sheet : List Strike} {c : Open} {v : Verdict} → History k sheet (is_open c)
        → Closes c sheet (Ok v) → History k sheet (is_closed v)
    after_refused_opening : {k : ℕ} {sheet : List Strike} {s : Stage} → History k sheet s
        → (other : Handed) (cells : ℕ) (e : Refusal) → RefusesOpening other cells e → History k sheet s
    -- of rounds and runs alike
    after_refused_round : {k : ℕ} {sheet : List Strike} {c : Open} → History k sheet (is_open c)
        → (other : Handed) (cells : ℕ) (x : Refused) → RefusesRound c other cells x → History k sheet (is_open x.comparison)
    after_refused_closing : {k : ℕ} {sheet : List Strike} {c : Open} → History k sheet (is_open c)
        → (other : List Strike) (x : Refused) → Closes c other (Err x) → History k sheet (is_open x.comparison)

  -- some prebisimulation holds the pair of both starts: the design does at least what the specification fixes
  abbrev pub StartRelated : Type 0
  StartRelated = (R : Relation) × Prebisimulation below m n R × (R m.start n.start ≡ true)

  -- the pairs that are unstruck after k rounds, as a relation between the states
  abbrev pub unstruck_pairs : ℕ → List Strike → Relation
  unstruck_pairs k sheet = related below m n (suc k) (cells_of n.states sheet)

  -- the reason in a struck pair's cell is the one that its round's rule takes
  abbrev pub RuleTaken : Cells → ℕ → ℕ → Type 0
  RuleTaken c p q =
      (((c p q).round ≡ 0) × (below (m.label p) (n.label q) ≡ false) × ((c p q).kind ≡ 0) × ((c p q).action ≡ 0) × ((c p q).target ≡ 0))
      ⊎ ((j : ℕ) × ((c p q).round ≡ suc j)
      × (reason m n (related below m n (suc j) c) p q ≡ Some (record { kind = (c p q).kind; action = (c p q).action; target = (c p q).target })))

  -- it unfolds to a formula exactly as deep as the pair's round, true at its first state and false at its second
  abbrev pub ToldApart : ℕ → Cells → ℕ → ℕ → Type 0
  ToldApart k c p q =
      (f : Formula L) × Unfolds m n k c p q f × (depth f ≡ (c p q).round) × Satisfies below m p f × (Satisfies below n q f → ⊥)

  -- after a yes the unstruck pairs are a prebisimulation, and every other lies within them
  abbrev pub Greatest : ℕ → List Strike → Type 0
  Greatest k sheet =
      Prebisimulation below m n (unstruck_pairs k sheet)
      × ((R : Relation) → Prebisimulation below m n R → (p q : ℕ) → R p q ≡ true → unstruck_pairs k sheet p q ≡ true)

  -- a closed comparison was closed as yes exactly if some prebisimulation holds the start pair
  abbrev pub VerdictRight : ℕ → List Strike → Stage → Type 0
  VerdictRight k sheet (is_open c) = Unit {0}
  VerdictRight k sheet (is_closed v) = Decides (says_yes v) StartRelated × (says_yes v ≡ true → Greatest k sheet)

  -- closing is not refused as undecided
  abbrev pub Decided : List Strike → Stage → Type 0
  Decided sheet (is_open c) = (x : Refused) → Closes c sheet (Err x) → x.refusal ≢ Undecided
  Decided sheet (is_closed v) = Unit {0}

  pub record Law (k : ℕ) (sheet : List Strike) (s : Stage) : Type 0 where
    -- the comparison counts the rounds done
    pub counted : rounds_of s ≡ k
    -- an unstruck pair's cell is blank
    pub blanks : (p q : ℕ) → p < m.states → q < n.states → Unstruck k (cells_of n.states sheet) p q → cells_of n.states sheet p q ≡ blank
    -- a pair is unstruck exactly when the approximant of the rounds done holds it
    pub approximants : (p q : ℕ) → p < m.states → q < n.states
        → Unstruck k (cells_of n.states sheet) p q ↔ Approximant below m n k p q
    -- and exactly when each formula true at its first state and at most as deep as the rounds done is true at its second
    pub formulas : (p q : ℕ) → p < m.states → q < n.states
        → Unstruck k (cells_of n.states sheet) p q ↔ ((f : Formula L) → depth f ≤ k → Satisfies below m p f → Satisfies below n q f)
    -- every struck pair has the reason that its round's rule takes, and it unfolds to a formula that tells the pair apart
    pub reasons : (p q : ℕ) → p < m.states → q < n.states → Struck k (cells_of n.states sheet) p q
        → RuleTaken (cells_of n.states sheet) p q × ToldApart k (cells_of n.states sheet) p q
    pub verdicts : VerdictRight k sheet s
    -- with as many rounds as there are pairs, closing decides
    pub bound : m.states * n.states ≤ k → Decided sheet s

  abbrev pub EveryHistory : Type 0
  EveryHistory = (k : ℕ) (sheet : List Strike) (s : Stage) → History k sheet s → Law k sheet s
