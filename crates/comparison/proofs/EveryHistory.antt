-- The law of a comparison holds over every history.
use Rattle.std.proofs.Common.{◌≡◌, ℕ, suc, ◌*◌, ◌<◌, ◌≤◌, Bool, true, false, leb, List, Ok, Err, sym, refl, ◌∙◌, subst, arith}
use Rattle.std.proofs.lemmas.Bool.{leb-true, leb-false, false≢true}
use Rattle.systems.specs.Label.{Preorder}
use Rattle.systems.specs.Meaning.{Meaning, Bounded}
use Rattle.preorder.specs.Prebisimulation.{Relation, Prebisimulation}
use Rattle.preorder.specs.Strikes.{Struck, Unstruck, related, cells_after}
use Rattle.preorder.proofs.Agreement.{related_agrees, sound_agrees}
use Rattle.preorder.proofs.Bound.{all_struck}
use Rattle.preorder.proofs.Formulas.{unstruck_formulas}
use Rattle.preorder.proofs.Invariant.{Sound}
use Rattle.preorder.proofs.Rounds.{related_says, related_from, unstruck_approximant, sound, greatest}
use Rattle.preorder.proofs.Standing.{unstruck_blank, reasons_stand}
use Rattle.preorder.proofs.Still.{unstruck_prebisimulation}
use Rattle.preorder.proofs.Unfolded.{struck_unfolds}
use Rattle.comparison.specs.declared.refusal.Refusal.{Refusal}
use Rattle.comparison.specs.declared.refusal.Refusal.TheVariants.{Undecided}
use Rattle.comparison.specs.declared.strike.Strike.{Strike}
use Rattle.comparison.specs.declared.stage.Open.{Open}
use Rattle.comparison.specs.declared.stage.Verdict.{Verdict}
use Rattle.comparison.specs.Calls.{start_struck}
use Rattle.comparison.specs.History.{Stage, is_open, is_closed, rounds_of, unstruck_pairs, Greatest, VerdictRight, Decided, Law, EveryHistory}
use Rattle.comparison.specs.Sheet.{cells_of}
use Rattle.comparison.proofs.CallLaws.{Closing, finds_short, finds_struck, finds_still, finds_unstruck, closing_finds}
use Rattle.comparison.proofs.Invariant.{Went, Stood, Kept, kept}

module _ {L : Type 0} (below : L → L → Bool) (m n : Meaning L) (bm : Bounded m) (bn : Bounded n)
    (k : ℕ) (sheet : List Strike) (c : Open) (s : Stood below m n k sheet c) where
  small : k < 65535
  small = omega (arith, s.few)

  sheet_sound : Sound below m n k (cells_of n.states sheet)
  sheet_sound = sound_agrees below m n _ (cells_after below m n k) s.agrees k (sound below m n bm bn s.same k small)

  unstruck_pairs_are : unstruck_pairs below m n k sheet ≡ related below m n (suc k) (cells_after below m n k)
  unstruck_pairs_are = related_agrees below m n (cells_of n.states sheet) (cells_after below m n k) s.agrees (suc k)

  -- closing reads the cell of the start pair
  start_struck_is : start_struck c sheet ≡ leb (cells_of n.states sheet m.start n.start).round k
  start_struck_is = rw (s.shaped, s.counted)

  start_is_struck : start_struck c sheet ≡ true → Struck k (cells_of n.states sheet) m.start n.start
  start_is_struck e = leb-true _ _ (sym start_struck_is ∙ e)

  start_is_unstruck : start_struck c sheet ≡ false → Unstruck k (cells_of n.states sheet) m.start n.start
  start_is_unstruck e = leb-false _ _ (sym start_struck_is ∙ e)

  within_unstruck : (R : Relation) → Prebisimulation below m n R → (p q : ℕ) → R p q ≡ true → unstruck_pairs below m n k sheet p q ≡ true
  within_unstruck R P p q rel =
      subst (λ (S : Relation). S p q ≡ true) (sym unstruck_pairs_are) (greatest below m n bm bn s.same k small R P p q rel)

  greatest_still : Went below m n k true → Greatest below m n k sheet
  greatest_still (j, last, still) = (
    subst (Prebisimulation below m n) (sym unstruck_pairs_are)
        (rw last (unstruck_prebisimulation below m n bm bn s.same j (omega (arith, small)) still)),
    within_unstruck,
  )

  -- what closing finds is right
  closed_right : (v : Verdict) → Closing c sheet (Ok v) → (rounds_of (is_closed v) ≡ c.rounds) × VerdictRight below m n k sheet (is_closed v)
  closed_right v (finds_struck struck) = (
    refl,
    (
      (
        λ e. absurd (false≢true e),
        λ (R, P, rel).
            let unstruck = (related_says below m n (suc k) _ _ _ (within_unstruck R P m.start n.start rel)).2 in
            absurd (omega (arith, start_is_struck struck)),
      ),
      λ e. absurd (false≢true e),
    ),
  )
  closed_right v (finds_still unstruck still) =
      let all = greatest_still (rw still at s.went) in (
        refl,
        (
          (
            λ e. (
              unstruck_pairs below m n k sheet,
              all.0,
              related_from below m n (suc k) _ _ _ bm.start_present bn.start_present (start_is_unstruck unstruck),
            ),
            λ related-start. refl,
          ),
          λ e. all,
        ),
      )

  -- closing cannot find the start pair unstruck, and no round still, after as many rounds as there are pairs
  bound_decides : m.states * n.states ≤ k → (e : Refusal) → Closing c sheet (Err e) → e ≡ Undecided → ⊥
  bound_decides enough e (finds_short h) is = absurd (grind arith)
  bound_decides enough e (finds_unstruck unstruck moving) is =
      let all = all_struck below m n k (rw moving at s.went) enough m.start n.start bm.start_present bn.start_present in
      omega (arith, start_is_unstruck unstruck, rw (← s.agrees m.start n.start bm.start_present bn.start_present) at all)

  -- a stage with these rounds keeps the law, if its verdict is right and it is decided in time
  law : Preorder below → (t : Stage) → rounds_of t ≡ c.rounds → VerdictRight below m n k sheet t
      → (m.states * n.states ≤ k → Decided below m n sheet t) → Law below m n k sheet t
  law order t counts right decided =
      let cells = cells_of n.states sheet in
      record {
        counted = counts ∙ s.counted;
        blanks = unstruck_blank below m n k cells sheet_sound;
        approximants = unstruck_approximant below m n bm bn k small cells sheet_sound;
        formulas = unstruck_formulas below m n order bm bn k small cells sheet_sound;
        reasons = λ p q hp hq h.
            (reasons_stand below m n k cells sheet_sound small p q hp hq h, struck_unfolds below m n order bm bn k small cells sheet_sound p q hp hq h);
        verdicts = right;
        bound = decided;
      }

pub every_history : {L : Type 0} (below : L → L → Bool) (m n : Meaning L) → Preorder below → Bounded m → Bounded n → EveryHistory below m n
every_history below m n order bm bn k sheet t h = go t (kept below m n h)
  where
    go : (t : Stage) → Kept below m n k sheet t → Law below m n k sheet t
    go (is_open c) s =
        law below m n bm bn k sheet c s order (is_open c) refl tt
        (λ enough x (closes, is). bound_decides below m n bm bn k sheet c s enough x.refusal (subst (Closing c sheet) closes (closing_finds c sheet)))
    go (is_closed v) (c, s, closes) =
        let (counts, right) = closed_right below m n bm bn k sheet c s v (subst (Closing c sheet) closes (closing_finds c sheet)) in
        law below m n bm bn k sheet c s order (is_closed v) counts right (λ enough. tt)
