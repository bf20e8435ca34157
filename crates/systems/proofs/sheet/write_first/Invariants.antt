use Rattle.std.proofs.Common.{◌≡◌, ℕ, ◌<◌}
use Rattle.systems.specs.Cells.{written}
use Rattle.systems.proofs.sheet.write_first.Given as goal

abbrev pub invariant-loop-i : goal.invariant-loop-i
invariant-loop-i g l =
    (f : ℕ → g.row.T.Denot) → ((i : ℕ) (x : g.row.T.Denot) → i < l.n → goal.F-post g l.value i x → x ≡ f i) → l.cells ≡ written l.i f l.initial.cells
