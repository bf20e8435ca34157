use Rattle.std.proofs.Common.{◌≡◌, ℕ, ◌+◌, ◌*◌, List, get_or, unwrap_or, refl, ap, ◌∙◌, arith}
use Rattle.systems.specs.Meaning.{Meaning}
use Rattle.systems.specs.Sets.{count}
use Rattle.preorder.specs.Prebisimulation.{Relation}
use Rattle.preorder.specs.Strikes.{count_pairs}
use Rattle.comparison.specs.declared.strike.Strike.{Strike}
use Rattle.comparison.specs.Grid.{laid, place}
use Rattle.comparison.specs.Search.{row_filled, strike_for, strike_over, strikes_over, struck_over}
use Rattle.comparison.specs.Sheet.{blank_strike, cells_of}
use Rattle.comparison.proofs.Counts.{count-row, pairs_few}
use Rattle.systems.proofs.Cells.{get_or-written_past}
use Rattle.comparison.proofs.Rows.{laid_none, laid_more}
use Rattle.comparison.proofs.striking.Round.strike_rows.Goals as goal

module _ {L : Type 0} (m n : Meaning L) (R : Relation) (k : ℕ) (before : List Strike) where
  -- the first rows
  abbrev Done : ℕ → ℕ → List Strike → Type 0
  Done p struck sheet =
      (struck ≡ count_pairs p n.states (struck_over m n R))
      × (sheet ≡ laid p n.states (strike_over m n R k (cells_of n.states before)) before)

  module _ (p struck row : ℕ) (sheet after : List Strike) (done : Done p struck sheet) where
    -- the row still has the cells that it had at the start
    untouched : (q : ℕ) → strike_over m n R k (cells_of n.states sheet) p q ≡ strike_over m n R k (cells_of n.states before) p q
    unfolding strike_over cells_of
    untouched q =
        ap (λ (s : Strike). unwrap_or (strike_for k (strikes_over m n R p q)) s)
        (ap (λ (zs : List Strike). get_or zs (place n.states p q) blank_strike) done.1
        ∙ get_or-written_past _ before (p * n.states) (place n.states p q) blank_strike (omega arith))

    one_more_row : row ≡ count n.states (struck_over m n R p)
        → after ≡ row_filled n.states p n.states (strike_over m n R k (cells_of n.states sheet) p) sheet → Done (p + 1) (struck + row) after
    one_more_row counted filled = (
      count-row (struck_over m n R) p n.states struck done.0 row counted,
      laid_more n.states (strike_over m n R k (cells_of n.states before)) before p _ sheet after done.1 filled (λ q h. untouched q),
    )

pub loop-p-init : goal.loop-p-init
unfolding count_pairs
loop-p-init g c = (refl, laid_none _ (strike_over _ _ _ _ _) _)

pub loop-p-preserved : goal.loop-p-preserved
loop-p-preserved g c = one_more_row _ _ _ _ _ _ _ _ _ _ c.loop-p.invariant c.strike_row-struck.ensures.struck c.strike_row-struck.ensures.cells

pub overflow_add-struck : goal.overflow_add-struck
overflow_add-struck g c =
    let done = one_more_row _ _ _ _ _ _ _ _ _ _ c.loop-p.invariant c.strike_row-struck.ensures.struck c.strike_row-struck.ensures.cells in
    let few = pairs_few _ (c.loop-p.p + 1) _ _ done.0 (omega (arith, (g.met.A.System.bounded c.args.self.now.first.now).few_states)) (g.met.B.System.bounded c.args.self.now.second.now).few_states in
    omega arith

pub returns : goal.returns
returns g c =
    let all : c.loop-p.p ≡ c.states-p-end.result = omega arith in
    let done = rw (all ∙ c.states-p-end.ensures) at c.loop-p.invariant in
    record { struck = done.0; cells = done.1 }
