-- How many numbers pass a test.
use Rattle.std.specs.Prelude.{◌≡◌, ℕ, zero, suc, ◌+◌, ◌<◌, ◌≤◌, Bool, true, false, cond, ◌⊎◌, refl}
use Rattle.std.proofs.Common.{sym, subst, ◌∙◌, inl, inr}
use Rattle.std.proofs.Math.Path.{ap}
use native.Mathlib.Omega.{arith}
use Rattle.std.proofs.lemmas.Bool.{cases_lt}
use Rattle.systems.specs.Sets.{count}

cond_mono : (x y : Bool) → (x ≡ true → y ≡ true) → cond x 1 0 ≤ cond y 1 0
cond_mono true y h = subst (λ b. 1 ≤ cond b 1 0) (sym (h refl)) (omega arith)
cond_mono false y h = omega arith

module _ (f g : ℕ → Bool) where
  pub count_mono : (w : ℕ) → ((i : ℕ) → i < w → f i ≡ true → g i ≡ true) → count w f ≤ count w g
  unfolding count
  count_mono zero h = omega arith
  count_mono (suc w) h =
      let rest = count_mono w (λ i l. h i (omega arith)) in
      let last = cond_mono (f w) (g w) (h w (omega arith)) in
      omega arith

  pub count_less : (w : ℕ) → ((i : ℕ) → i < w → f i ≡ true → g i ≡ true) → (j : ℕ) → j < w → f j ≡ false → g j ≡ true → count w f < count w g
  unfolding count
  count_less zero h j l x y = absurd (omega arith)
  count_less (suc w) h j l x y =
      go (cases_lt j w) (λ k. count_less w (λ i u. h i (omega arith)) j k x y) (count_mono w (λ i u. h i (omega arith))) (cond_mono (f w) (g w) (h w (omega arith)))
    where
      go : (j < w) ⊎ (w ≤ j) → (j < w → count w f < count w g) → count w f ≤ count w g → cond (f w) 1 0 ≤ cond (g w) 1 0
          → count w f + cond (f w) 1 0 < count w g + cond (g w) 1 0
      go (inl k) less all last = let here = less k in omega arith
      go (inr k) less all last =
          let same : j ≡ w = omega arith in
          let no-f : ◌≡◌ {A = ℕ} (cond (f w) 1 0) 0 = ap (λ b. cond b 1 0) (ap f (sym same) ∙ x) in
          let yes-g : ◌≡◌ {A = ℕ} (cond (g w) 1 0) 1 = ap (λ b. cond b 1 0) (ap g (sym same) ∙ y) in
          omega arith
