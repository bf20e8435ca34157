-- What every history keeps: the sheet holds the cells of the rounds done, and only the last of them may have been still.
use Rattle.std.proofs.Common.{◌≡◌, ℕ, suc, ◌+◌, ◌*◌, ◌<◌, ◌≤◌, Bool, true, false, eqb, List, length, None, Ok, refl, ap, ◌∙◌, subst, inl, inr, arith}
use Rattle.std.proofs.lemmas.Bool.{cases_lt, eqb-true, eqb-false}
use Rattle.systems.specs.Meaning.{Meaning}
use Rattle.preorder.specs.Strikes.{Cells, opened, rounded, cells_after, newly_struck}
use Rattle.preorder.proofs.Agreement.{rounded_agrees, newly_struck_agrees}
use Rattle.preorder.proofs.Bound.{EachStrikes}
use Rattle.comparison.specs.declared.strike.Strike.{Strike}
use Rattle.comparison.specs.declared.stage.Open.{Open}
use Rattle.comparison.specs.Calls.{handed, begun, opening_refusal, most_rounds, one_more, round_strikes, round_sheet, closing, run, Opens, Rounds, Runs}
use Rattle.comparison.specs.History.{Stage, is_open, is_closed, History, after_opening, after_round, after_run, after_closing, after_refused_opening, after_refused_round, after_refused_closing}
use Rattle.comparison.specs.Sheet.{cell_of, strike_of, blank_strike, cells_of, holding}
use Rattle.comparison.proofs.CallLaws.{opening_accepted, round_accepted}
use Rattle.comparison.proofs.GridLaws.{length-laid, laid-at}
use Rattle.comparison.proofs.RunLaws.{further, run_keeps}

-- a sheet that holds cells has them
holding_cells : (height width : ℕ) (c : Cells) (sheet : List Strike) → height * width ≤ length sheet
    → (p q : ℕ) → p < height → q < width → cells_of width (holding height width c sheet) p q ≡ c p q
unfolding cells_of
holding_cells height width c sheet room p q hp hq = ap cell_of (laid-at height width (λ x y. strike_of (c x y)) sheet room p q blank_strike hp hq)

module _ {L : Type 0} (below : L → L → Bool) (m n : Meaning L) where
  -- how k rounds went, by whether the last was still: each struck a pair, or the last struck none
  abbrev pub Went : ℕ → Bool → Type 0
  Went k false = EachStrikes below m n k
  Went k true = (j : ℕ) × (k ≡ suc j) × (newly_struck below m n (suc j) (cells_after below m n j) ≡ 0)

  -- an open comparison and its sheet after k rounds: the numbers are the systems', and on present pairs the sheet has the cells of k rounds
  pub record Stood (k : ℕ) (sheet : List Strike) (c : Open) : Type 0 where
    pub shaped : c.shape ≡ (begun (handed m n)).shape
    pub counted : c.rounds ≡ k
    pub few : k ≤ most_rounds
    pub same : m.actions ≡ n.actions
    pub room : m.states * n.states ≤ length sheet
    pub agrees : (p q : ℕ) → p < m.states → q < n.states → cells_of n.states sheet p q ≡ cells_after below m n k p q
    pub went : Went k c.still

  stood_opened : (before : List Strike) → opening_refusal (handed m n) (length before) ≡ None
      → Stood 0 (holding m.states n.states (opened below m n) before) (begun (handed m n))
  unfolding cells_after
  stood_opened before e =
      let (same, room) = opening_accepted (handed m n) (length before) e in
      record {
        shaped = refl;
        counted = refl;
        few = omega arith;
        same = same;
        room = rw length-laid room;
        agrees = holding_cells m.states n.states (opened below m n) before room;
        went = λ j h. absurd (omega arith);
      }

  -- one more round after rounds that each struck a pair
  went_further : (k : ℕ) → EachStrikes below m n k → Went (suc k) (eqb (newly_struck below m n (suc k) (cells_after below m n k)) 0)
  went_further k each = go (eqb (newly_struck below m n (suc k) (cells_after below m n k)) 0) refl
    where
      go : (b : Bool) → eqb (newly_struck below m n (suc k) (cells_after below m n k)) 0 ≡ b → Went (suc k) b
      go true e = (k, refl, eqb-true _ _ e)
      go false e = λ j h none. elim (cases_lt j k) [
        | inl lt ↦ each j lt none
        | inr le ↦ let last : j ≡ k = omega arith in eqb-false _ _ e (rw last at none)
      ]

  stood_further : (k : ℕ) (sheet : List Strike) (c : Open) → c.still ≡ false → c.rounds < most_rounds → Stood k sheet c
      → Stood (suc k) (round_sheet below m n c.rounds sheet) (one_more c (round_strikes below m n c.rounds sheet))
  unfolding cells_after
  stood_further k sheet c moving more s =
      let next : c.rounds + 1 ≡ suc k = omega (arith, s.counted) in
      let cells = cells_of n.states sheet in
      record {
        shaped = s.shaped;
        counted = next;
        few = omega (arith, s.counted);
        same = s.same;
        room = rw length-laid s.room;
        agrees = λ p q hp hq.
            holding_cells m.states n.states (rounded below m n (c.rounds + 1) cells) sheet s.room p q hp hq
            ∙ ap (λ i. rounded below m n i cells p q) next ∙ rounded_agrees below m n cells (cells_after below m n k) s.agrees (suc k) p q hp hq;
        went = rw (next, newly_struck_agrees below m n cells (cells_after below m n k) s.agrees (suc k))
            (went_further k (rw moving at s.went));
      }

  -- the same along a run that begins after k rounds
  stood_run : (k : ℕ) (sheet : List Strike) (c : Open) (allowance : ℕ) → Stood k sheet c
      → let r = run below m n allowance c sheet in Stood (k + r.done) r.sheet r.stage
  unfolding run
  stood_run k sheet c allowance s =
      run_keeps below m n (λ r. Stood (k + r.done) r.sheet r.stage)
      (λ r moving more h. subst (λ i. Stood i (further below m n r).sheet (further below m n r).stage) (omega arith)
      (stood_further (k + r.done) r.sheet r.stage moving more h))
      allowance _ (subst (λ i. Stood i sheet c) (omega arith) s)

  -- a closed comparison is an open one and what closing it read
  abbrev pub Kept : ℕ → List Strike → Stage → Type 0
  Kept k sheet (is_open c) = Stood k sheet c
  Kept k sheet (is_closed v) = (c : Open) × Stood k sheet c × (closing c sheet ≡ Ok v)

  pub kept : {k : ℕ} {sheet : List Strike} {s : Stage} → History below m n k sheet s → Kept k sheet s
  unfolding Opens Rounds Runs
  kept (after_opening before (accepted, began, held)) = rw (began, held) (stood_opened before accepted)
  kept (after_round {k = k} {before = before} {c = c} h a (accepted, struck, is, held)) =
      let (moving, more) = round_accepted c (handed m n) (length before) accepted in
      rw (is, held) (stood_further k before c moving more (kept h))
  kept (after_run {k = k} {before = before} {c = c} h allowance a (accepted, is, done, struck, held)) =
      rw (is, done, held) (stood_run k before c allowance (kept h))
  kept (after_closing {c = c} h closes) = (c, kept h, closes)
  kept (after_refused_opening h other cells e refuses) = kept h
  kept (after_refused_round h other cells x (refuses, is)) = rw is (kept h)
  kept (after_refused_closing h other x (refuses, is)) = rw is (kept h)
