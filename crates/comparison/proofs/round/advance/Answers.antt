use Rattle.std.proofs.Common.{◌≡◌, ℕ, ◌+◌, Bool, List, Some, None, Option, unwrap_or, refl, ap, ◌∙◌, ap₂}
use mathlib.Core.Path.{fun_ext}
use Rattle.systems.specs.Meaning.{Meaning}
use Rattle.preorder.specs.Prebisimulation.{Relation}
use Rattle.preorder.specs.Reason.{Reason as Why}
use Rattle.preorder.specs.Strikes.{Cell, Cells, count_pairs, newly_struck, related, rounded, strikes, struck_or_kept}
use Rattle.comparison.specs.declared.strike.Strike.{Strike}
use Rattle.comparison.specs.Calls.{round_sheet, round_strikes}
use Rattle.comparison.specs.Grid.{laid}
use Rattle.comparison.specs.Search.{from_round, related_in, strike_for, strike_over, strikes_over, struck_over}
use Rattle.comparison.specs.Sheet.{cells_of, strike_of}
use Rattle.comparison.proofs.round.advance.Goals as goal

module _ {L : Type 0} (below : L → L → Bool) (m n : Meaning L) where
  -- the pairs of the grid that are related are those that round k calls related
  round_relation : (k : ℕ) (c : Cells) → related_in m.states n.states k c ≡ related below m n k c
  unfolding related_in from_round related
  round_relation k c = refl

  written : (k : ℕ) (o : Option Why) (old : Cell) → unwrap_or (strike_for k o) (strike_of old) ≡ strike_of (struck_or_kept below m n k old o)
  unfolding strike_for
  written k (Some r) old = refl
  written k None old = refl

  module _ (height width rounds : ℕ) (R : Relation) (before : List Strike) (rows : height ≡ m.states) (columns : width ≡ n.states)
      (taken : R ≡ related_in height width (rounds + 1) (cells_of width before)) where
    relation_is : R ≡ related below m n (rounds + 1) (cells_of n.states before)
    relation_is = taken ∙ ap₂ (λ (h w : ℕ). related_in h w (rounds + 1) (cells_of w before)) rows columns ∙ round_relation _ _

    strikes_are : (struck : ℕ) → struck ≡ count_pairs m.states n.states (struck_over m n R) → struck ≡ round_strikes below m n rounds before
    unfolding newly_struck struck_over strikes strikes_over
    strikes_are struck e = e ∙ ap (λ (S : Relation). count_pairs m.states n.states (struck_over m n S)) relation_is

    cells_are : (after : List Strike) → after ≡ laid m.states n.states (strike_over m n R (rounds + 1) (cells_of n.states before)) before
        → after ≡ round_sheet below m n rounds before
    unfolding strike_over strikes_over rounded strikes
    cells_are after e =
        e ∙ ap (λ (S : Relation). laid m.states n.states (strike_over m n S (rounds + 1) (cells_of n.states before)) before) relation_is
        ∙ ap (λ (f : ℕ → ℕ → Strike). laid m.states n.states f before)
        (fun_ext (λ p. fun_ext (λ q. written (rounds + 1) (strikes below m n (rounds + 1) (cells_of n.states before) p q) (cells_of n.states before p q))))

pub returns : goal.returns
returns g c =
    record {
      struck = strikes_are _ _ _ _ _ _ _ _ c.states.ensures c.states-2.ensures c.in_sheet-related.ensures _ c.strike_rows-struck.ensures.struck;
      stage = refl;
      cells = cells_are _ _ _ _ _ _ _ _ c.states.ensures c.states-2.ensures c.in_sheet-related.ensures _ c.strike_rows-struck.ensures.cells;
    }
