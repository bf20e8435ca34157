-- A comparison that is opened and run with all the rounds that there may be closes, and its verdict is right.
use Rattle.std.proofs.Common.{◌≡◌, ℕ, ◌+◌, ◌*◌, ◌≤◌, Bool, false, List, length, Some, None, Ok, Err, Decides, Result, sym, refl, ap, ◌∙◌, subst, ap₂, inl, inr, ⊎_elim, arith}
use Rattle.std.proofs.lemmas.Nat.{mul-le}
use Rattle.std.proofs.lemmas.Bool.{leb-true, or_cases, both_ways}
use Rattle.systems.specs.Label.{Preorder}
use Rattle.systems.specs.Meaning.{Meaning, Bounded}
use Rattle.comparison.specs.declared.refusal.Refusal.{Refusal}
use Rattle.comparison.specs.declared.refusal.Refusal.TheVariants.{Undecided}
use Rattle.comparison.specs.declared.refusal.Refused.{Refused}
use Rattle.comparison.specs.declared.strike.Strike.{Strike}
use Rattle.comparison.specs.declared.stage.Open.{Open}
use Rattle.comparison.specs.declared.stage.Verdict.{Verdict}
use Rattle.comparison.specs.Calls.{handed, begun, opening_refusal, most_rounds, closing, run, Opens, Runs, round_refusal, Closes}
use Rattle.comparison.specs.History.{is_open, says_yes, StartRelated, History, after_opening, after_run, after_closing}
use Rattle.comparison.specs.Settling.{opened_sheet, opened_run, Settles}
use Rattle.comparison.proofs.CallLaws.{opening_accepted, begun_accepts, Closing, finds_short, finds_struck, finds_still, finds_unstruck, closing_finds}
use Rattle.comparison.proofs.EveryHistory.{every_history}
use Rattle.comparison.proofs.GridLaws.{length-laid}
use Rattle.comparison.proofs.RunLaws.{run-shape, run_ends}

module _ {L : Type 0} (below : L → L → Bool) (m n : Meaning L) where
  module _ (order : Preorder below) (bm : Bounded m) (bn : Bounded n)
      (before : List Strike) (accepted : opening_refusal (handed m n) (length before) ≡ None) where
    opened_history : History below m n 0 (opened_sheet below m n before) (is_open (begun (handed m n)))
    unfolding Opens
    opened_history = after_opening before (accepted, refl, refl)

    run_history : History below m n (0 + (opened_run below m n before).done) (opened_run below m n before).sheet (is_open (opened_run below m n before).stage)
    unfolding Runs
    run_history =
        after_run opened_history most_rounds ((opened_run below m n before).stage, ((opened_run below m n before).done, (opened_run below m n before).struck))
        (rw length-laid (begun_accepts (handed m n) (length before) accepted), refl, refl, refl, refl)

    -- a run that does not end still has done all the rounds that there may be, which are more than there are pairs
    enough_rounds : (opened_run below m n before).stage.still ≡ false → m.states * n.states ≤ (opened_run below m n before).stage.rounds
    unfolding run
    enough_rounds moving =
        let few = mul-le m.states n.states 64 64 bm.few_states bn.few_states in
        elim (run_ends below m n most_rounds _) [
          | inl stop ↦ ⊎_elim (λ still. absurd (both_ways _ moving still)) (λ most. omega (arith, leb-true _ _ most)) (or_cases _ _ stop)
          | inr spent ↦ omega (arith, spent)
        ]

    closes : (o : Result Verdict Refusal) → Closing (opened_run below m n before).stage (opened_run below m n before).sheet o
        → closing (opened_run below m n before).stage (opened_run below m n before).sheet ≡ o
        → (v : Verdict) × (closing (opened_run below m n before).stage (opened_run below m n before).sheet ≡ Ok v)
    closes o (finds_short short) e =
        let (shape, kept) = run-shape below m n most_rounds (begun (handed m n)) (opened_sheet below m n before) in
        let room : m.states * n.states ≤ length (opened_run below m n before).sheet =
        rw (kept, length-laid) (opening_accepted (handed m n) (length before) accepted).1 in
        absurd (omega (arith, rw shape at short))
    closes o (finds_struck struck) e = (_, e)
    closes o (finds_still unstruck still) e = (_, e)
    closes o (finds_unstruck unstruck moving) e =
        let law = every_history below m n order bm bn _ _ _ run_history in
        absurd (law.bound (rw (← law.counted) (enough_rounds moving)) (record { refusal = Undecided; comparison = (opened_run below m n before).stage }) (e, refl) refl)

    pub settles : (v : Verdict) × (closing (opened_run below m n before).stage (opened_run below m n before).sheet ≡ Ok v) × Decides (says_yes v) (StartRelated below m n)
    settles =
        let (v, e) = closes _ (closing_finds (opened_run below m n before).stage (opened_run below m n before).sheet) refl in
        (v, e, (every_history below m n order bm bn _ _ _ (after_closing run_history e)).verdicts.0)

  -- the three calls of settling, one after the other
  module _ (order : Preorder below) (bm : Bounded m) (bn : Bounded n) (before : List Strike) where
    opened_run_accepted : (s : List Strike) → opening_refusal (handed m n) (length before) ≡ None → s ≡ opened_sheet below m n before
        → round_refusal (begun (handed m n)) (handed m n) (length s) ≡ None
    opened_run_accepted s accepted e = rw (e, length-laid) (begun_accepts (handed m n) (length before) accepted)

    pub run_not_refused : (a : ℕ) (c : Open) (s after : List Strike) (x : Refused)
        → Opens below m n before (Ok c) s → Runs below m n a c s (Err x) after → ⊥
    unfolding Opens Runs
    run_not_refused a c s after x o r =
        let none = opened_run_accepted s o.0 o.2 in
        let z : None ≡ Some x.refusal = sym none ∙ ap (λ (y : Open). round_refusal y (handed m n) (length s)) (sym o.1) ∙ r.0.0 in
        cc

    same_run : (allowance : ℕ) (c : Open) (s : List Strike) → allowance ≡ most_rounds → c ≡ begun (handed m n)
        → s ≡ opened_sheet below m n before → run below m n allowance c s ≡ opened_run below m n before
    same_run allowance c s a e d =
        ap (λ (k : ℕ). run below m n k c s) a ∙ ap₂ (run below m n most_rounds) e d

    pub close_not_refused : (allowance : ℕ) (c : Open) (s after : List Strike) (a : Open × (ℕ × ℕ)) (x : Refused) → allowance ≡ most_rounds
        → Opens below m n before (Ok c) s → Runs below m n allowance c s (Ok a) after → Closes a.0 after (Err x) → ⊥
    unfolding Opens Runs
    close_not_refused allowance c s after a x all o r k =
        let same = same_run allowance c s all o.1 o.2 in
        let (v, e, right) = settles order bm bn before o.0 in
        let z : Ok v ≡ Err x.refusal = sym e ∙ sym (ap₂ closing (r.1 ∙ ap (λ y. y.stage) same) (r.4 ∙ ap (λ y. y.sheet) same)) ∙ k.0 in
        cc

    pub settled : (allowance : ℕ) (c : Open) (s after : List Strike) (a : Open × (ℕ × ℕ)) (v : Verdict) → allowance ≡ most_rounds
        → Opens below m n before (Ok c) s → Runs below m n allowance c s (Ok a) after → Closes a.0 after (Ok v)
        → Settles below m n before (Ok (record { verdict = v; rounds = a.1.0; struck = a.1.1 })) after
    unfolding Opens Runs Settles
    settled allowance c s after a v all o r k =
        let same = same_run allowance c s all o.1 o.2 in
        let (w, e, right) = settles order bm bn before o.0 in
        let closed : closing (opened_run below m n before).stage (opened_run below m n before).sheet ≡ Ok v =
        sym (ap₂ closing (r.1 ∙ ap (λ y. y.stage) same) (r.4 ∙ ap (λ y. y.sheet) same)) ∙ k in
        let w-is : w ≡ v = cc in (
          o.0,
          closed,
          subst (λ (y : Verdict). Decides (says_yes y) (StartRelated below m n)) w-is right,
          r.2 ∙ ap (λ y. y.done) same,
          r.3 ∙ ap (λ y. y.struck) same,
          r.4 ∙ ap (λ y. y.sheet) same,
        )
