use Rattle.std.proofs.Common.{◌≡◌, ℕ, ◌+◌, true, false, List, set, is_some, Some, None, Option, sym, refl, ◌∙◌, arith}
use Rattle.systems.specs.Meaning.{Meaning}
use Rattle.systems.specs.Sets.{count}
use Rattle.preorder.specs.Prebisimulation.{Relation}
use Rattle.preorder.specs.Reason.{Reason as Why}
use Rattle.comparison.specs.declared.strike.Strike.{Strike}
use Rattle.comparison.specs.Grid.{place}
use Rattle.comparison.specs.Search.{row_filled, strike_for, strike_over, strikes_over, struck_over}
use Rattle.comparison.specs.Sheet.{blank_strike, cells_of}
use Rattle.comparison.proofs.Counts.{count_more, count_same, count_few}
use Rattle.comparison.proofs.Rows.{row_filled_none, row_filled_more, row_filled_kept}
use Rattle.comparison.proofs.striking.Round.strike_row.Goals as goal
use Rattle.comparison.proofs.striking.Round.strike_row.Goals.{in-Some, in_default}

struck_some : (k : ℕ) (o : Option Why) (s : Strike) → strike_for k o ≡ Some s → is_some o ≡ true
unfolding strike_for
struck_some k (Some r) s e = refl
struck_some k None s e = absurd (grind arith)

struck_none : (k : ℕ) (o : Option Why) → strike_for k o ≡ None → is_some o ≡ false
unfolding strike_for
struck_none k (Some r) e = absurd (grind arith)
struck_none k None e = refl

module _ {L : Type 0} (m n : Meaning L) (R : Relation) (k p : ℕ) (before : List Strike) where
  -- the first pairs of a row
  abbrev Done : ℕ → ℕ → ℕ → List Strike → Type 0
  Done width q struck sheet =
      (struck ≡ count q (struck_over m n R p)) × (sheet ≡ row_filled width p q (strike_over m n R k (cells_of width before) p) before)

  module _ (width q struck struck' : ℕ) (sheet sheet' : List Strike) (done : Done width q struck sheet) where
    step_struck : (s : Strike) → strike_for k (strikes_over m n R p q) ≡ Some s → struck' ≡ struck + 1 → sheet' ≡ set sheet (place width p q) s
        → Done width (q + 1) struck' sheet'
    unfolding struck_over strike_over
    step_struck s e more written = (
      more ∙ count_more (struck_over m n R p) q struck done.0 (struck_some k (strikes_over m n R p q) s e),
      row_filled_more width p q (strike_over m n R k (cells_of width before) p) before sheet sheet' s done.1 (rw e) written,
    )

    step_kept : strike_for k (strikes_over m n R p q) ≡ None → struck' ≡ struck → sheet' ≡ sheet → Done width (q + 1) struck' sheet'
    unfolding struck_over strike_over cells_of
    step_kept e same kept = (
      same ∙ count_same (struck_over m n R p) q struck done.0 (struck_none k (strikes_over m n R p q) e),
      kept ∙ row_filled_kept width p q (strike_over m n R k (cells_of width before) p) before sheet blank_strike done.1 (rw e),
    )

pub loop-q-init : goal.loop-q-init
unfolding count
loop-q-init g c = (refl, sym (row_filled_none _ _ _ _))

pub loop-q-preserved : goal.loop-q-preserved
loop-q-preserved g c =
    elim c.match-strike_of.branch [
      | in-Some w ↦ step_struck _ _ _ _ _ _ _ _ _ _ _ _ c.loop-q.invariant w.in-Some.strike (sym c.strike_of.ensures ∙ w.in-Some.is) w.struck-is (w.sheet-is ∙ w.set.ensures)
      | in_default w ↦ step_kept _ _ _ _ _ _ _ _ _ _ _ _ c.loop-q.invariant (sym c.strike_of.ensures ∙ w.in_default.is) w.struck-is w.sheet-is
    ]

pub overflow_add-struck : goal.overflow_add-struck
overflow_add-struck g c = let few = count_few _ c.loop-q.q _ c.loop-q.invariant.0 in omega arith

pub returns : goal.returns
returns g c =
    let all : c.loop-q.q ≡ c.states-2.result = omega arith in
    let done = rw (all, c.states-2.ensures) at c.loop-q.invariant in
    record { struck = done.0; cells = done.1 }
