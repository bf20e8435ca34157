-- Counting pair by pair and row by row, and how large a count gets.
use Rattle.std.proofs.Common.{◌≡◌, ℕ, ◌+◌, ◌≤◌, Bool, true, false, add-one, arith}
use Rattle.std.proofs.lemmas.Nat.{mul-le}
use Rattle.systems.specs.Sets.{count}
use Rattle.preorder.specs.Prebisimulation.{Relation}
use Rattle.preorder.specs.Strikes.{count_pairs}
use Rattle.preorder.proofs.Counting.{count_pairs_bounded}

module _ (f : ℕ → Bool) (q n : ℕ) (counted : n ≡ count q f) where
  pub count_more : f q ≡ true → n + 1 ≡ count (q + 1) f
  unfolding count
  count_more passes = rw (add-one q, passes, ← counted)

  pub count_same : f q ≡ false → n ≡ count (q + 1) f
  unfolding count
  count_same fails = rw (add-one q, fails, ← counted) (omega arith)

  pub count_few : n ≤ q
  unfolding count_pairs
  count_few = omega (arith, count_pairs_bounded 1 q (λ p. f))

module _ (R : Relation) (height width n : ℕ) (counted : n ≡ count_pairs height width R) where
  pub count-row : (row : ℕ) → row ≡ count width (R height) → n + row ≡ count_pairs (height + 1) width R
  unfolding count_pairs
  count-row row here = rw (add-one height, ← counted, ← here)

  pub pairs_few : height ≤ 64 → width ≤ 64 → n ≤ 4096
  pairs_few low narrow = omega (arith, count_pairs_bounded height width R, mul-le height width 64 64 low narrow)
