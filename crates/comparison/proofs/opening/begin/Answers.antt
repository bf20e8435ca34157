use Rattle.std.proofs.Common.{◌≡◌, ℕ, Bool, false, List, length, Some, None, Ok, Err, Result, ◌*◌, ◌<◌, ◌≤◌, sym, refl, ap, ◌∙◌, ap₂, arith}
use Rattle.std.proofs.lemmas.Result.{err_from_is_err_and}
use Rattle.std.proofs.Math.Nat.{mul-le-mul_right}
use Rattle.systems.specs.Meaning.{Meaning}
use Rattle.comparison.specs.declared.grid.Grid.{Grid}
use Rattle.comparison.specs.declared.refusal.Refusal.{Refusal}
use Rattle.comparison.specs.declared.stage.Open.{Open}
use Rattle.comparison.specs.declared.stage.Shape.{Shape}
use Rattle.comparison.specs.declared.strike.Strike.{Strike}
use Rattle.comparison.specs.Calls.{Handed, Opens, begun, handed, opening_refusal}
use Rattle.comparison.specs.Grid.{laid, place}
use Rattle.comparison.specs.Search.{opened_strike}
use Rattle.comparison.proofs.CallLaws.{opening_accepted}
use Rattle.comparison.proofs.EveryHistory.{every_history}
use Rattle.comparison.proofs.Rows.{laid_none, laid_more}
use Rattle.comparison.proofs.opening.begin.Goals as goal

-- the grid that is written has a row for each first state and a column for each second
grid_is : (h : Handed) (s : Shape) (g : Grid) → s ≡ (begun h).shape → g ≡ record { height = s.first_states; width = s.second_states } → (g.height ≡ h.first_states) × (g.width ≡ h.second_states)
grid_is h s g shape grid = (
  ap (λ (x : Grid). x.height) grid ∙ ap (λ (x : Shape). x.first_states) shape,
  ap (λ (x : Grid). x.width) grid ∙ ap (λ (x : Shape). x.second_states) shape,
)

-- each row begins within the sheet
row_begins : (h : Handed) (g : Grid) (p cells : ℕ) → opening_refusal h cells ≡ None → (g.height ≡ h.first_states) × (g.width ≡ h.second_states) → p < g.height → place g.width p 0 ≤ cells
row_begins h g p cells accepted (rows, columns) below =
    let room = (opening_accepted h cells accepted).1 in
    let before : p * g.width ≤ g.height * g.width = mul-le-mul_right g.width (omega arith) in
    let whole : g.height * g.width ≡ h.first_states * h.second_states = ap₂ ◌*◌ rows columns in
    omega arith

-- once each row of the grid is written, the opening is done
all_rows : {L : Type 0} (below : L → L → Bool) (m n : Meaning L) (s : Shape) (g : Grid) (p : ℕ) (before after : List Strike)
    → opening_refusal (handed m n) (length before) ≡ None → s ≡ (begun (handed m n)).shape
    → (g.height ≡ m.states) × (g.width ≡ n.states) → p ≡ g.height
    → after ≡ laid p g.width (opened_strike below m n) before
    → Opens below m n before (Ok (record { shape = s; rounds = 0; still = false })) after
unfolding Opens opened_strike
all_rows below m n s g p before after accepted shape (rows, columns) all laid_out = (
  accepted,
  ap {B = Open} (λ (x : Shape). record { shape = x; rounds = 0; still = false }) shape,
  laid_out ∙ ap₂ (λ (h w : ℕ). laid h w (opened_strike below m n) before) (all ∙ rows) columns,
)

-- a refused opening writes nothing
not_opened : {L : Type 0} (below : L → L → Bool) (m n : Meaning L) (before : List Strike) (e : Refusal) (r : Result Open Refusal)
    → Some e ≡ opening_refusal (handed m n) (length before) → r ≡ Err e → Opens below m n before r before
unfolding Opens
not_opened below m n before e r why is = rw is (sym why, refl)

pub loop-p-init : goal.loop-p-init
loop-p-init g c = laid_none _ (opened_strike _ _ _) _

pub loop-p-preserved : goal.loop-p-preserved
loop-p-preserved g c = laid_more c.grid-grid.result.width (opened_strike _ _ _) _ c.loop-p.p _ _ _ c.loop-p.invariant c.open_row.ensures (λ q h. refl)

pub returns-in_err-check_opening : goal.returns-in_err-check_opening
returns-in_err-check_opening g c =
    let (e, same, converted) = err_from_is_err_and c.from_residual.result c.from_residual.ensures.1 in
    record {
      step = not_opened _ _ _ _ _ _ c.in_err-check_opening.ensures (rw converted at same);
      law = every_history _ _ _ g.met.L.Label.order (g.met.A.System.bounded c.args.first.now) (g.met.B.System.bounded c.args.second.now);
    }

pub open_row-requires : goal.open_row-requires
open_row-requires g c =
    let m = g.A.System.meaning c.args.first.now in
    let n = g.B.System.meaning c.args.second.now in
    let begins = row_begins (handed m n) c.grid-grid.result c.loop-p.p (length c.args.sheet.now) (sym c.in_ok-check_opening.ensures)
    (grid_is (handed m n) _ _ c.shape_of-shape.ensures c.grid-grid.ensures) c.loop-p-test.true in
    omega (arith, c.loop-p.auto.sheet)

pub returns : goal.returns
returns g c = record {
  step = all_rows _ _ _ _ _ c.loop-p.p _ _ (sym c.in_ok-check_opening.ensures) c.shape_of-shape.ensures
      (grid_is (handed (g.A.System.meaning c.args.first.now) (g.B.System.meaning c.args.second.now)) _ _ c.shape_of-shape.ensures c.grid-grid.ensures)
      (omega arith) c.loop-p.invariant;
  law = every_history _ _ _ g.met.L.Label.order (g.met.A.System.bounded c.args.first.now) (g.met.B.System.bounded c.args.second.now);
}
