-- Lists of cells, written from the front.
use Rattle.std.specs.Prelude.{ℕ, zero, suc, List, slice_set}

-- xs with its first n cells written: cell k holds f k. Cells past those stay, and there are no more cells than before.
unfoldable pub written : {X : Type 0} → ℕ → (ℕ → X) → List X → List X
written zero f xs = xs
written (suc n) f xs = slice_set (written n f xs) n (f n)
