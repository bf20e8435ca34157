-- How far a run has come, round by round.
use Rattle.std.proofs.Common.{◌≡◌, ℕ, suc, ◌+◌, ◌-◌, ◌*◌, ◌<◌, ◌≤◌, Bool, true, false, ◌⊎◌, List, length, None, Ok, sym, refl, ap, ◌∙◌, inl, inr, arith}
use Rattle.std.proofs.lemmas.Bool.{cond-false, lt-leb, both_ways, or_from}
use Rattle.systems.specs.Meaning.{Meaning, Bounded}
use Rattle.preorder.specs.Strikes.{newly_struck}
use Rattle.comparison.specs.declared.strike.Strike.{Strike}
use Rattle.comparison.specs.declared.stage.Open.{Open}
use Rattle.comparison.specs.Calls.{Progress, Runs, handed, most_rounds, one_more, round_refusal, round_sheet, round_strikes, run, run_to}
use Rattle.comparison.proofs.Counts.{pairs_few}
use Rattle.comparison.proofs.RunLaws.{stopped, further, run_keeps}

module _ {L : Type 0} (below : L → L → Bool) (m n : Meaning L) where
  -- the rounds that are left of the allowance lead to the run's end
  pub record Running (allowance : ℕ) (start r : Progress below m n) : Type 0 where
    pub leads : run_to below m n allowance start ≡ run_to below m n (allowance - r.done) r
    pub within : r.done ≤ allowance
    pub counted : r.done ≤ r.stage.rounds
    pub limited : r.stage.rounds ≤ most_rounds
    pub few : r.struck ≤ 4096 * r.done

  pub running_starts : (allowance : ℕ) (c : Open) (sheet : List Strike) → c.rounds ≤ most_rounds
      → Running allowance (record { stage = c; sheet = sheet; done = 0; struck = 0 }) (record { stage = c; sheet = sheet; done = 0; struck = 0 })
  running_starts allowance c sheet low = record {
    leads = ap (λ (a : ℕ). run_to below m n a (record { stage = c; sheet = sheet; done = 0; struck = 0 })) (omega arith);
    within = omega arith;
    counted = omega arith;
    limited = low;
    few = omega arith;
  }

  module _ (bm : Bounded m) (bn : Bounded n) (allowance : ℕ) (start r : Progress below m n) (running : Running allowance start r) where
    -- a round strikes at most as many pairs as there are
    pub strikes_few : round_strikes below m n r.stage.rounds r.sheet ≤ 4096
    unfolding newly_struck
    strikes_few = pairs_few _ m.states n.states _ refl bm.few_states bn.few_states

    further-leads : (left : ℕ) → stopped below m n r ≡ false → run_to below m n (suc left) r ≡ run_to below m n left (further below m n r)
    unfolding run_to
    further-leads left goes = ap (run_to below m n left) (cond-false (stopped below m n r) r (further below m n r) goes)

    running_further : r.done < allowance → r.stage.still ≡ false → r.stage.rounds < most_rounds → Running allowance start (further below m n r)
    running_further more moving low =
        let left : allowance - r.done ≡ suc (allowance - (r.done + 1)) = omega (arith, more) in
        record {
          leads =
              running.leads ∙ ap (λ (a : ℕ). run_to below m n a r) left
              ∙ further-leads (allowance - (r.done + 1)) (or_from r.stage.still _ moving (lt-leb most_rounds r.stage.rounds low));
          within = omega (arith, more);
          counted = omega (arith, running.counted);
          limited = omega (arith, low);
          few = omega (arith, running.few, strikes_few);
        }

    -- the same, by what the round answered
    pub running_more : (next : Open) (struck : ℕ) (after : List Strike) → r.done < allowance → r.stage.still ≡ false → r.stage.rounds < most_rounds
        → next ≡ one_more r.stage struck → struck ≡ round_strikes below m n r.stage.rounds r.sheet → after ≡ round_sheet below m n r.stage.rounds r.sheet
        → Running allowance start (record { stage = next; sheet = after; done = r.done + 1; struck = r.struck + struck })
    running_more next struck after more moving low one count cells = rw (one, count, cells) (running_further more moving low)

    -- a run ends with its allowance spent or where it goes no further
    pub running_ends : (r.done ≡ allowance) ⊎ (stopped below m n r ≡ true) → run_to below m n allowance start ≡ r
    unfolding run_to
    running_ends (inl spent) = running.leads ∙ ap (λ (a : ℕ). run_to below m n a r) left
      where
        left : allowance - r.done ≡ 0
        left = omega arith
    running_ends (inr stop) = running.leads ∙ run_keeps below m n (λ x. x ≡ r) goes_not (allowance - r.done) r refl
      where
        goes_not : (x : Progress below m n) → x.stage.still ≡ false → x.stage.rounds < most_rounds → x ≡ r → further below m n x ≡ r
        goes_not x moving low e =
            absurd (both_ways (stopped below m n x) (or_from x.stage.still _ moving (lt-leb most_rounds x.stage.rounds low)) (ap (stopped below m n) e ∙ stop))

  -- an accepted run, by where it ended
  pub run_answers : (bm : Bounded m) (bn : Bounded n) (allowance : ℕ) (c d : Open) (before : List Strike) (r : Progress below m n)
      → (round_refusal c (handed m n) (length before) ≡ None) × (d ≡ c) → Running allowance (record { stage = d; sheet = before; done = 0; struck = 0 }) r
      → (r.done ≡ allowance) ⊎ (stopped below m n r ≡ true) → Runs below m n allowance c before (Ok (r.stage, (r.done, r.struck))) r.sheet
  unfolding Runs run
  run_answers bm bn allowance c d before r (accepted, same) running ends =
      let e = sym (running_ends bm bn allowance _ r (rw same at running) ends) in (
        accepted,
        ap (λ (x : Progress below m n). x.stage) e,
        ap (λ (x : Progress below m n). x.done) e,
        ap (λ (x : Progress below m n). x.struck) e,
        ap (λ (x : Progress below m n). x.sheet) e,
      )
