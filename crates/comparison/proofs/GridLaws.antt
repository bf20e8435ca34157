-- What a grid laid over a list holds.
use Rattle.std.proofs.Common.{◌≡◌, ℕ, ◌*◌, ◌<◌, ◌≤◌, List, length, get_or, ◌∙◌, ap₂, arith}
use Rattle.std.proofs.lemmas.Nat.{mul-add-lt, div-mul-add, mod-mul-add}
use Rattle.systems.proofs.Cells.{length-written, get_or-written}
use Rattle.comparison.specs.Grid.{place, laid}

-- the place of a pair lies within the grid
pub place_within : (height width p q : ℕ) → p < height → q < width → place width p q < height * width
place_within height width p q hp hq = omega (arith, mul-add-lt p width q height hp hq)

module _ {X : Type 0} (height width : ℕ) (f : ℕ → ℕ → X) (xs : List X) where
  pub length-laid : length (laid height width f xs) ≡ length xs
  length-laid = length-written _ xs (height * width)

  pub laid-at : height * width ≤ length xs → (p q : ℕ) (d : X) → p < height → q < width
      → get_or (laid height width f xs) (place width p q) d ≡ f p q
  laid-at room p q d hp hq =
      let h = place_within height width p q hp hq in
      get_or-written _ xs (height * width) (place width p q) d h (omega arith)
      ∙ ap₂ f (div-mul-add p width q hq) (mod-mul-add p width q hq)
