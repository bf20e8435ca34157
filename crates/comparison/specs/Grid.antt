-- A grid over a list of any cells: the pair (p, q) has cell p × width + q.
use Rattle.std.specs.Prelude.{ℕ, ◌+◌, ◌*◌, ◌/◌, ◌%◌, List}
use Rattle.systems.specs.Cells.{written}

abbrev pub place : ℕ → ℕ → ℕ → ℕ
place width p q = p * width + q

-- the grid of height × width cells laid over a list, a cell for each pair; the cells past it stay
abbrev pub laid : {X : Type 0} → ℕ → ℕ → (ℕ → ℕ → X) → List X → List X
laid height width f xs = written (height * width) (λ i. f (i / width) (i % width)) xs
