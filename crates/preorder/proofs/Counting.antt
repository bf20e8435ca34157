-- Laws of counting the numbers, and the pairs, that pass a test.
use Rattle.std.proofs.Common.{◌≡◌, ℕ, zero, suc, ◌+◌, ◌*◌, ◌<◌, ◌≤◌, Bool, true, false, cond, ◌⊎◌, refl, inl, inr, suc-mul, arith}
use Rattle.std.proofs.lemmas.Bool.{cases_lt}
use Rattle.systems.specs.Sets.{count}
use Rattle.systems.proofs.Sets.{count_bounded}
use Rattle.preorder.specs.Prebisimulation.{Relation}
use Rattle.preorder.specs.Strikes.{count_pairs}

-- ---- numbers

count_none : (w : ℕ) (f : ℕ → Bool) → count w f ≡ 0 → (i : ℕ) → i < w → f i ≡ false
unfolding count
count_none zero f e i h = absurd (omega arith)
count_none (suc w) f e i h = go (cases_lt i w) (f w) refl e (count_none w f)
  where
    go : (i < w) ⊎ (w ≤ i) → (b : Bool) → f w ≡ b → count w f + cond b 1 0 ≡ 0 → (count w f ≡ 0 → (j : ℕ) → j < w → f j ≡ false) → f i ≡ false
    go (inl lt) b is z ih = ih (omega arith) i lt
    go (inr ge) true is z ih = absurd (omega arith)
    go (inr ge) false is z ih = let same : i ≡ w = omega arith in rw same is

count_full : (w : ℕ) (f : ℕ → Bool) → w ≤ count w f → (i : ℕ) → i < w → f i ≡ true
unfolding count
count_full zero f e i h = absurd (omega arith)
count_full (suc w) f e i h = go (cases_lt i w) (f w) refl e (count_bounded w f) (count_full w f)
  where
    go : (i < w) ⊎ (w ≤ i) → (b : Bool) → f w ≡ b → suc w ≤ count w f + cond b 1 0 → count w f ≤ w
        → (w ≤ count w f → (j : ℕ) → j < w → f j ≡ true) → f i ≡ true
    go c false is z le ih = absurd (omega arith)
    go (inl lt) true is z le ih = ih (omega arith) i lt
    go (inr ge) true is z le ih = let same : i ≡ w = omega arith in rw same is

-- tests f and g that never pass together, and only where h passes, count at most what h counts
count_apart : (w : ℕ) (f g h : ℕ → Bool) → ((i : ℕ) → i < w → cond (f i) 1 0 + cond (g i) 1 0 ≤ cond (h i) 1 0)
    → count w f + count w g ≤ count w h
unfolding count
count_apart zero f g h e = omega arith
count_apart (suc w) f g h e =
    let before = count_apart w f g h (λ i lt. e i (omega arith)) in
    let here = e w (omega arith) in
    omega arith

-- ---- pairs

pub count_pairs_bounded : (h w : ℕ) (R : Relation) → count_pairs h w R ≤ h * w
unfolding count_pairs
count_pairs_bounded zero w R = omega arith
count_pairs_bounded (suc h) w R =
    let before = count_pairs_bounded h w R in
    let here = count_bounded w (R h) in
    rw suc-mul (omega arith)

pub count_pairs_none : (h w : ℕ) (R : Relation) → count_pairs h w R ≡ 0 → (p q : ℕ) → p < h → q < w → R p q ≡ false
unfolding count_pairs
count_pairs_none zero w R e p q hp hq = absurd (omega arith)
count_pairs_none (suc h) w R e p q hp hq = go (cases_lt p h) (count_pairs_none h w R)
  where
    go : (p < h) ⊎ (h ≤ p) → (count_pairs h w R ≡ 0 → (x y : ℕ) → x < h → y < w → R x y ≡ false) → R p q ≡ false
    go (inl lt) ih = ih (omega arith) p q lt hq
    go (inr ge) ih = let same : p ≡ h = omega arith in rw same (count_none w (R h) (omega arith) q hq)

pub count_pairs_full : (h w : ℕ) (R : Relation) → h * w ≤ count_pairs h w R → (p q : ℕ) → p < h → q < w → R p q ≡ true
unfolding count_pairs
count_pairs_full zero w R e p q hp hq = absurd (omega arith)
count_pairs_full (suc h) w R e p q hp hq = go (cases_lt p h) (rw suc-mul at e) (count_pairs_full h w R)
  where
    go : (p < h) ⊎ (h ≤ p) → h * w + w ≤ count_pairs h w R + count w (R h)
        → (h * w ≤ count_pairs h w R → (x y : ℕ) → x < h → y < w → R x y ≡ true) → R p q ≡ true
    go (inl lt) le ih = let here = count_bounded w (R h) in ih (omega arith) p q lt hq
    go (inr ge) le ih =
        let same : p ≡ h = omega arith in
        let before = count_pairs_bounded h w R in
        rw same (count_full w (R h) (omega arith) q hq)

pub count_pairs_apart : (h w : ℕ) (R S T : Relation)
    → ((p q : ℕ) → p < h → q < w → cond (R p q) 1 0 + cond (S p q) 1 0 ≤ cond (T p q) 1 0)
    → count_pairs h w R + count_pairs h w S ≤ count_pairs h w T
unfolding count_pairs
count_pairs_apart zero w R S T e = omega arith
count_pairs_apart (suc h) w R S T e =
    let before = count_pairs_apart h w R S T (λ p q hp hq. e p q (omega arith) hq) in
    let here = count_apart w (R h) (S h) (T h) (λ q hq. e h q (omega arith) hq) in
    omega arith
