-- A strike sheet as cells by pair.
use Rattle.std.specs.Prelude.{ℕ, List, slice_index_or}
use Rattle.preorder.specs.Strikes.{Cell, Cells}
use Rattle.comparison.specs.declared.strike.Strike.{Strike}
use Rattle.comparison.specs.Grid.{place, laid}

abbrev pub cell_of : Strike → Cell
cell_of s = record { round = s.round; kind = s.kind; action = s.action; target = s.target }

abbrev pub strike_of : Cell → Strike
strike_of c = record { round = c.round; kind = c.kind; action = c.action; target = c.target }

abbrev pub blank_strike : Strike
blank_strike = record { round = 65535; kind = 0; action = 0; target = 0 }

-- the cells that a sheet holds, by pair, where there are so many second states
unfoldable pub cells_of : ℕ → List Strike → Cells
cells_of width sheet p q = cell_of (slice_index_or sheet (place width p q) blank_strike)

-- a sheet with these cells for the pairs, and its other cells as they were
abbrev pub holding : ℕ → ℕ → Cells → List Strike → List Strike
holding height width c sheet = laid height width (λ p q. strike_of (c p q)) sheet
