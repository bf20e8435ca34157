-- The laws of cells written from the front.
use Rattle.std.proofs.Common.{◌≡◌, ℕ, zero, suc, ◌+◌, ◌<◌, ◌≤◌, ◌⊎◌, List, length, get_or, set, sym, refl, ap, ◌∙◌, subst, ap₂, inl, inr, add-one, arith}
use Rattle.std.proofs.lemmas.List.{length-set, get_or-set_same, get_or-set_other, set_comm, set-set}
use Rattle.std.proofs.lemmas.Bool.{cases_eq}
use Rattle.systems.specs.Cells.{written}

module _ {X : Type 0} (f : ℕ → X) (xs : List X) where
  pub length-written : (n : ℕ) → length (written n f xs) ≡ length xs
  unfolding written
  length-written zero = refl
  length-written (suc n) = length-set (written n f xs) n (f n) ∙ length-written n

  pub written_none : xs ≡ written 0 f xs
  unfolding written
  written_none = refl

  pub written_suc : (k : ℕ) → set (written k f xs) k (f k) ≡ written (suc k) f xs
  unfolding written
  written_suc k = refl

  pub written_more : (k : ℕ) (ys : List X) (x : X) → ys ≡ written k f xs → x ≡ f k → set ys k x ≡ written (k + 1) f xs
  unfolding written
  written_more k ys x e d = rw add-one (ap₂ (λ zs z. set zs k z) e d)

  pub written_all : (k n : ℕ) (ys : List X) → ys ≡ written k f xs → k ≡ n → ys ≡ written n f xs
  written_all k n ys e d = e ∙ ap (λ j. written j f xs) d

  pub get_or-written : (n k : ℕ) (d : X) → k < n → k < length xs → get_or (written n f xs) k d ≡ f k
  unfolding written
  get_or-written zero k d h l = absurd (omega arith)
  get_or-written (suc n) k d h l = go (cases_eq k n) (λ lt. get_or-written n k d lt l)
    where
      go : (k ≡ n) ⊎ (k ≡ n → ⊥) → (k < n → get_or (written n f xs) k d ≡ f k) → get_or (set (written n f xs) n (f n)) k d ≡ f k
      go (inl e) rest =
          ap (λ j. get_or (set (written n f xs) n (f n)) j d) e
          ∙ get_or-set_same (written n f xs) n (f n) d (subst (λ m. n < m) (sym (length-written n)) (omega arith)) ∙ ap f (sym e)
      go (inr ne) rest = get_or-set_other (written n f xs) n k (f n) d ne ∙ rest (omega arith)

  -- cells past those written stay
  pub get_or-written_past : (n k : ℕ) (d : X) → n ≤ k → get_or (written n f xs) k d ≡ get_or xs k d
  unfolding written
  get_or-written_past zero k d h = refl
  get_or-written_past (suc n) k d h = get_or-set_other (written n f xs) n k (f n) d (omega arith) ∙ get_or-written_past n k d (omega arith)

-- what is written twice keeps what was written last
module _ {X : Type 0} (f : ℕ → X) where
  written-set : (n k : ℕ) (xs : List X) (x : X) → n ≤ k → written n f (set xs k x) ≡ set (written n f xs) k x
  unfolding written
  written-set zero k xs x h = refl
  written-set (suc n) k xs x h =
      ap (λ ys. set ys n (f n)) (written-set n k xs x (omega arith)) ∙ set_comm (written n f xs) k n x (f n) (omega arith)

  pub written_over : (g : ℕ → X) (n : ℕ) (xs : List X) → written n f (written n g xs) ≡ written n f xs
  unfolding written
  written_over g zero xs = refl
  written_over g (suc n) xs =
      ap (λ ys. set ys n (f n)) (written-set n n (written n g xs) (g n) (omega arith) ∙ ap (λ ys. set ys n (g n)) (written_over g n xs))
      ∙ set-set (written n f xs) n (g n) (f n)
