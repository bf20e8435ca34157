-- A grid is laid row by row, and a row cell by cell.
use Rattle.std.proofs.Common.{◌≡◌, ℕ, zero, suc, ◌+◌, ◌-◌, ◌/◌, ◌%◌, ◌<◌, ◌≤◌, ◌≢◌, List, ◌++◌, length, get_or, take, drop, set, sym, refl, ap, ◌∙◌, ap₂, suc-mul, zero-mul, add-one, arith}
use Rattle.std.proofs.lemmas.Nat.{div-mul-add, mod-mul-add}
use Rattle.std.proofs.lemmas.List.{append-nil, drop_all, get_or-set_other, length-drop, length-take-le, set-append_right, set-get_or, take-append-drop, take_all}
use Rattle.systems.specs.Cells.{written}
use Rattle.systems.proofs.Cells.{written_suc}
use Rattle.comparison.specs.Grid.{place, laid}
use Rattle.comparison.specs.Search.{row_filled}

module _ {X : Type 0} where
  pub row_filled_none : (width p : ℕ) (f : ℕ → X) (xs : List X) → row_filled width p 0 f xs ≡ xs
  unfolding row_filled
  row_filled_none width p f xs = refl

  pub row_filled_more : (width p q : ℕ) (f : ℕ → X) (xs : List X) (ys zs : List X) (x : X)
      → ys ≡ row_filled width p q f xs → x ≡ f q → zs ≡ set ys (place width p q) x → zs ≡ row_filled width p (q + 1) f xs
  unfolding row_filled
  row_filled_more width p q f xs ys zs x e is after = rw (add-one, ← e, ← is) after

  -- the cells of the row that are still to come are as they were
  pub row_filled_past : (width p q j : ℕ) (f : ℕ → X) (xs : List X) (d : X) → q ≤ j
      → get_or (row_filled width p q f xs) (place width p j) d ≡ get_or xs (place width p j) d
  unfolding row_filled
  row_filled_past width p zero j f xs d h = refl
  row_filled_past width p (suc q) j f xs d h =
      let apart : place width p j ≢ place width p q = omega arith in
      get_or-set_other (row_filled width p q f xs) (place width p q) (place width p j) (f q) d apart ∙ row_filled_past width p q j f xs d (omega arith)

  -- a cell of the row that is as it was need not be written
  pub row_filled_kept : (width p q : ℕ) (f : ℕ → X) (xs ys : List X) (d : X) → ys ≡ row_filled width p q f xs
      → f q ≡ get_or xs (place width p q) d → ys ≡ row_filled width p (q + 1) f xs
  row_filled_kept width p q f xs ys d e kept =
      row_filled_more width p q f xs ys ys (get_or ys (place width p q) d) e
      (ap (λ (zs : List X). get_or zs (place width p q) d) e ∙ row_filled_past width p q q f xs d (omega arith) ∙ sym kept) (sym (set-get_or ys (place width p q) d))

  -- a row written from its place on, the cells before it put back
  row_written : (width p q : ℕ) (f : ℕ → X) (xs : List X) → place width p 0 ≤ length xs
      → take (place width p 0) xs ++ written q f (drop (place width p 0) xs) ≡ row_filled width p q f xs
  unfolding row_filled written
  row_written width p zero f xs h = take-append-drop (place width p 0) xs
  row_written width p (suc q) f xs h =
      let at = place width p 0 in
      let cell : q ≡ place width p q - at = omega arith in
      ap (λ (i : ℕ). take at xs ++ set (written q f (drop at xs)) i (f q)) cell
      ∙ sym (set-append_right (take at xs) (written q f (drop at xs)) at (place width p q) (f q) (length-take-le at xs h) (omega arith))
      ∙ ap (λ (zs : List X). set zs (place width p q) (f q)) (row_written width p q f xs h)

  -- the same as a part of the list that is lent up to its end
  pub row_lent : (width p at count : ℕ) (f : ℕ → X) (xs row : List X) → place width p 0 ≤ length xs → at ≡ place width p 0 → count ≡ width
      → row ≡ written count f (take (length xs - at) (drop at xs))
      → take at xs ++ (row ++ drop (length xs - at) (drop at xs)) ≡ row_filled width p width f xs
  row_lent width p at count f xs row h from wide is =
      let rest = drop at xs in
      let long : length rest ≤ length xs - at = omega (arith, length-drop at xs) in
      ap (λ (ys : List X). take at xs ++ ys) (ap (λ (zs : List X). row ++ zs) (drop_all (length xs - at) rest long) ∙ append-nil row ∙ is ∙ ap (written count f) (take_all (length xs - at) rest long))
      ∙ ap₂ (λ (i n : ℕ). take i xs ++ written n f (drop i xs)) from wide
      ∙ row_written width p width f xs h

module _ {X : Type 0} (width : ℕ) (f : ℕ → ℕ → X) (xs : List X) where
  -- the grid up to a place
  abbrev laid_to : ℕ → List X
  laid_to count = written count (λ i. f (i / width) (i % width)) xs

  pub laid_none : xs ≡ laid 0 width f xs
  unfolding written
  laid_none = rw zero-mul

  row_laid : (p : ℕ) (g : ℕ → X) → ((q : ℕ) → q < width → g q ≡ f p q) → (q : ℕ) → q ≤ width
      → row_filled width p q g (laid p width f xs) ≡ laid_to (place width p q)
  unfolding row_filled
  row_laid p g e zero h = ap laid_to (omega arith)
  row_laid p g e (suc q) h =
      ap₂ (λ (ys : List X) (x : X). set ys (place width p q) x) (row_laid p g e q (omega arith))
      (e q h ∙ sym (ap₂ f (div-mul-add p width q h) (mod-mul-add p width q h)))
      ∙ written_suc _ xs (place width p q) ∙ ap laid_to (omega arith)

  -- one row more
  pub laid_more : (p : ℕ) (g : ℕ → X) (ys zs : List X) → ys ≡ laid p width f xs → zs ≡ row_filled width p width g ys
      → ((q : ℕ) → q < width → g q ≡ f p q) → zs ≡ laid (p + 1) width f xs
  laid_more p g ys zs before after e =
      after ∙ ap (row_filled width p width g) before ∙ row_laid p g e width (omega arith) ∙ ap laid_to (rw (add-one, suc-mul))
