-- What a run keeps, and how it ends.
use Rattle.std.proofs.Common.{◌≡◌, ℕ, zero, suc, ◌+◌, ◌<◌, Bool, true, false, ◌||◌, leb, ◌⊎◌, List, length, refl, ap, ◌∙◌, inl, inr, arith}
use Rattle.std.proofs.lemmas.Bool.{leb-false, or_parts, cases_Bool, cond-true, cond-false, cond_both}
use Rattle.systems.specs.Meaning.{Meaning}
use Rattle.comparison.specs.declared.strike.Strike.{Strike}
use Rattle.comparison.specs.declared.stage.Open.{Open}
use Rattle.comparison.specs.Calls.{most_rounds, one_more, round_strikes, round_sheet, Progress, advanced, run_to, run}
use Rattle.comparison.proofs.GridLaws.{length-laid}

module _ {L : Type 0} (below : L → L → Bool) (m n : Meaning L) where
  -- whether a run goes no further
  abbrev pub stopped : Progress below m n → Bool
  stopped r = r.stage.still || leb most_rounds r.stage.rounds

  -- where one more round leads
  abbrev pub further : Progress below m n → Progress below m n
  further r = record {
    stage = one_more r.stage (round_strikes below m n r.stage.rounds r.sheet);
    sheet = round_sheet below m n r.stage.rounds r.sheet;
    done = r.done + 1;
    struck = r.struck + round_strikes below m n r.stage.rounds r.sheet;
  }

  -- what one more round keeps, a run keeps
  pub run_keeps : (P : Progress below m n → Type 0)
      → ((r : Progress below m n) → r.stage.still ≡ false → r.stage.rounds < most_rounds → P r → P (further r))
      → (allowance : ℕ) (r : Progress below m n) → P r → P (run_to below m n allowance r)
  unfolding run_to
  run_keeps P more zero r h = h
  run_keeps P more (suc allowance) r h =
      run_keeps P more allowance (advanced below m n r)
      (cond_both (stopped r) r (further r) P (λ e. h)
      (λ e. let parts = or_parts r.stage.still _ e in more r parts.0 (leb-false _ _ parts.1) h))

  -- a run keeps the comparison's numbers and the sheet's length
  pub run-shape : (allowance : ℕ) (c : Open) (sheet : List Strike)
      → ((run below m n allowance c sheet).stage.shape ≡ c.shape) × (length (run below m n allowance c sheet).sheet ≡ length sheet)
  unfolding run
  run-shape allowance c sheet =
      run_keeps (λ r. (r.stage.shape ≡ c.shape) × (length r.sheet ≡ length sheet))
      (λ r moving more h. (h.0, rw length-laid h.1)) allowance _ (refl, refl)

  stopped_stays : (allowance : ℕ) (r : Progress below m n) → stopped r ≡ true → run_to below m n allowance r ≡ r
  unfolding run_to
  stopped_stays zero r e = refl
  stopped_stays (suc allowance) r e =
      ap (run_to below m n allowance) (cond-true (stopped r) r (further r) e) ∙ stopped_stays allowance r e

  -- a run ends where it goes no further, or with its allowance spent
  pub run_ends : (allowance : ℕ) (r : Progress below m n)
      → (stopped (run_to below m n allowance r) ≡ true) ⊎ ((run_to below m n allowance r).stage.rounds ≡ r.stage.rounds + allowance)
  unfolding run_to
  run_ends zero r = inr (omega arith)
  run_ends (suc allowance) r = go (cases_Bool (stopped r)) (run_ends allowance (further r))
    where
      go : (stopped r ≡ true) ⊎ (stopped r ≡ false)
          → (stopped (run_to below m n allowance (further r)) ≡ true)
          ⊎ ((run_to below m n allowance (further r)).stage.rounds ≡ r.stage.rounds + 1 + allowance)
          → (stopped (run_to below m n allowance (advanced below m n r)) ≡ true)
          ⊎ ((run_to below m n allowance (advanced below m n r)).stage.rounds ≡ r.stage.rounds + suc allowance)
      go (inl e) later = inl (rw (cond-true (stopped r) r (further r) e, stopped_stays allowance r e) e)
      go (inr e) (inl h) = rw (cond-false (stopped r) r (further r) e) (inl h)
      go (inr e) (inr h) = rw (cond-false (stopped r) r (further r) e) (inr (omega arith))
