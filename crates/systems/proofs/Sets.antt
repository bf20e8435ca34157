-- The laws of sets held as numbers.
use Rattle.std.specs.Prelude.{◌≡◌, ℕ, zero, suc, ◌+◌, ◌-◌, ◌*◌, ◌/◌, ◌%◌, ◌^◌, ◌<◌, ◌≤◌, Bool, true, false, cond, not, ◌&&◌, ◌||◌, ltb, ◌⊎◌, Decides, ◌==◌, bit_and, bit_or, nat_eq, nat_lt, refl}
use Rattle.std.proofs.Common.{sym, ap, ap₂, ◌∙◌, inl, inr, mod-lt, arith, min, max, pow_pos, pow_mono}
use Rattle.std.proofs.Math.Bool.{or-false}
use Rattle.std.proofs.Math.Nat.{pow-succ'}
use Rattle.std.specs.Int.Bits.{and_lt}
use Rattle.std.proofs.Math.Pow.{pow-lt}
use Rattle.std.proofs.lemmas.Nat.{and_comm, and_le_l, or_lt}
use Rattle.std.specs.Int.{bit_at}
use Rattle.std.proofs.lemmas.Nat.Bits.{bit_at_lowest, bit_at-suc, bit_at-lt, bit_at_and, bit_at_or, bit_at-pow_same, bit_at-pow_other, bit_at_ones, bit_at_ones_above, bit_at_above, same_from_bits_below}
use Rattle.std.proofs.lemmas.Bool.{cases_eq, eqb-true, eq-eqb, ne_eqb, lt-ltb, le-ltb, ltb-true, true≢false, and_parts, not-true, not_from_false, cases_lt}
use Rattle.std.proofs.lemmas.Bool.Decides.{nat_tests, Decides-below_or, Decides-like, same_from_decides}
use Rattle.systems.specs.Containment.{every_decides, contained_decides}
use Rattle.systems.specs.Sets.{has, set_of, every, some_of, count, contained}

-- ---- one bit

two_bits : (b : ℕ) → b < 2 → (b ≡ 0) ⊎ (b ≡ 1)
two_bits zero h = inl refl
two_bits (suc zero) h = inr refl
two_bits (suc (suc b)) h = absurd (omega arith)

pub bit_cases : (n : ℕ) → (n % 2 ≡ 0) ⊎ (n % 2 ≡ 1)
bit_cases n = two_bits (n % 2) (mod-lt n {m = 2} (omega arith))

-- the bit of number i in a set
bit_of : (m i : ℕ) → (bit_at m i ≡ 0) ⊎ (bit_at m i ≡ 1)
bit_of m i = two_bits (bit_at m i) (bit_at-lt m i)

-- what is said of two bits holds if it holds of each pair
by_bits : (P : ℕ → ℕ → Type 0) → P 0 0 → P 0 1 → P 1 0 → P 1 1 → (a b i : ℕ) → P (bit_at a i) (bit_at b i)
by_bits P p00 p01 p10 p11 a b i = go (bit_at a i) (bit_at b i) (bit_of a i) (bit_of b i)
  where
    go : (x y : ℕ) → (x ≡ 0) ⊎ (x ≡ 1) → (y ≡ 0) ⊎ (y ≡ 1) → P x y
    go x y (inl e) (inl d) = rw (e, d) p00
    go x y (inl e) (inr d) = rw (e, d) p01
    go x y (inr e) (inl d) = rw (e, d) p10
    go x y (inr e) (inr d) = rw (e, d) p11

pub has_zero : (m : ℕ) → has m 0 ≡ (m % 2 == 1)
unfolding has
has_zero m = ap (λ (x : ℕ). nat_eq x 1) (bit_at_lowest m)

pub has_suc : (m i : ℕ) → has m (suc i) ≡ has (m / 2) i
unfolding has
has_suc m i = ap (λ (x : ℕ). nat_eq x 1) (bit_at-suc m i)

-- ---- the set of a test

pub set_of_lt : (w : ℕ) (f : ℕ → Bool) → set_of w f < 2 ^ w
unfolding set_of
set_of_lt zero f = omega arith
set_of_lt (suc w) f =
    let h = set_of_lt w (λ i. f (suc i)) in
    let low : cond (f 0) 1 0 < 2 = bit (f 0) in
    rw (pow-succ' 2 w) (omega arith)
  where
    bit : (b : Bool) → cond b 1 0 < 2
    bit true = omega arith
    bit false = omega arith

low_bit : (b : Bool) (n : ℕ) → ((cond b 1 0 + 2 * n) % 2 == 1) ≡ b
low_bit true n = eq-eqb _ _ (omega arith)
low_bit false n = ne_eqb _ _ (omega arith)

high_bits : (b : Bool) (n : ℕ) → (cond b 1 0 + 2 * n) / 2 ≡ n
high_bits true n = omega arith
high_bits false n = omega arith

pub has-set_of : (w : ℕ) (f : ℕ → Bool) (i : ℕ) → i < w → has (set_of w f) i ≡ f i
unfolding set_of
has-set_of zero f i h = absurd (omega arith)
has-set_of (suc w) f zero h = has_zero _ ∙ low_bit (f 0) (set_of w (λ i. f (suc i)))
has-set_of (suc w) f (suc i) h =
    has_suc _ i ∙ ap (λ (x : ℕ). has x i) (high_bits (f 0) (set_of w (λ j. f (suc j))))
    ∙ has-set_of w (λ j. f (suc j)) i (omega arith)

-- two sets of numbers below w with the same members are the same number
pub has_ext : (w a b : ℕ) → a < 2 ^ w → b < 2 ^ w → ((i : ℕ) → i < w → has a i ≡ has b i) → a ≡ b
unfolding has
has_ext w a b p q e =
    same_from_bits_below w a b p q (λ i h.
    by_bits (λ x y. (x == 1) ≡ (y == 1) → x ≡ y) (λ t. refl) (λ t. absurd (true≢false (sym t))) (λ t. absurd (true≢false t)) (λ t. refl) a b i (e i h))

-- a number is the set of its own members
pub set_of-has : (w a : ℕ) → a < 2 ^ w → set_of w (has a) ≡ a
set_of-has w a h = has_ext w _ a (set_of_lt w (has a)) h (has-set_of w (has a))

pub set_of_cong : (w : ℕ) (f g : ℕ → Bool) → ((i : ℕ) → i < w → f i ≡ g i) → set_of w f ≡ set_of w g
set_of_cong w f g e =
    has_ext w _ _ (set_of_lt w f) (set_of_lt w g) (λ i h. has-set_of w f i h ∙ e i h ∙ sym (has-set_of w g i h))

-- a set of numbers below w has none from w on
pub has_beyond : (w a i : ℕ) → a < 2 ^ w → w ≤ i → has a i ≡ false
unfolding has
has_beyond w a i h le = ap (λ (x : ℕ). nat_eq x 1) (bit_at_above a w i h le)

-- the same at every number, where only numbers below w pass
pub has_set_of_any : (w : ℕ) (f : ℕ → Bool) → ((i : ℕ) → f i ≡ true → i < w) → (i : ℕ) → has (set_of w f) i ≡ f i
has_set_of_any w f k i = go (cases_lt i w) (f i) refl
  where
    go : (i < w) ⊎ (w ≤ i) → (x : Bool) → f i ≡ x → has (set_of w f) i ≡ f i
    go (inl h) x e = has-set_of w f i h
    go (inr h) true e = absurd (omega (arith, k i e))
    go (inr h) false e = has_beyond w _ i (set_of_lt w f) h ∙ sym e

-- ---- joining and meeting

pub has_and : (a b i : ℕ) → has (bit_and a b) i ≡ (has a i && has b i)
unfolding has
has_and a b i =
    ap (λ (x : ℕ). nat_eq x 1) (bit_at_and a b i) ∙ by_bits (λ x y. (min x y == 1) ≡ (x == 1 && y == 1)) refl refl refl refl a b i

pub has_or : (a b i : ℕ) → has (bit_or a b) i ≡ (has a i || has b i)
unfolding has
has_or a b i =
    ap (λ (x : ℕ). nat_eq x 1) (bit_at_or a b i) ∙ by_bits (λ x y. (max x y == 1) ≡ (x == 1 || y == 1)) refl refl refl refl a b i

-- the empty set and the set of one number
pub has_none : (i : ℕ) → has 0 i ≡ false
has_none i = has_beyond 0 0 i (omega arith) (omega arith)

pub has_single : (j i : ℕ) → has (2 ^ j) i ≡ (i == j)
unfolding has
has_single j i = go (cases_eq i j)
  where
    go : (i ≡ j) ⊎ (i ≡ j → ⊥) → (bit_at (2 ^ j) i == 1) ≡ (i == j)
    go (inl e) = eq-eqb _ _ (ap (bit_at (2 ^ j)) e ∙ bit_at-pow_same j) ∙ sym (eq-eqb i j e)
    go (inr ne) = ap (λ (x : ℕ). nat_eq x 1) (bit_at-pow_other j i ne) ∙ sym (ne_eqb i j ne)

-- one number more
pub set_of_or : (w : ℕ) (f g : ℕ → Bool) → bit_or (set_of w f) (set_of w g) ≡ set_of w (λ i. f i || g i)
set_of_or w f g =
    has_ext w _ _ (or_lt w _ _ (set_of_lt w f) (set_of_lt w g)) (set_of_lt w (λ i. f i || g i))
    (λ i h. has_or _ _ i ∙ ap₂ ◌||◌ (has-set_of w f i h) (has-set_of w g i h) ∙ sym (has-set_of w (λ j. f j || g j) i h))

pub set_of_and : (w : ℕ) (f g : ℕ → Bool) → bit_and (set_of w f) (set_of w g) ≡ set_of w (λ i. f i && g i)
set_of_and w f g =
    has_ext w _ _ (and_lt w _ _ (set_of_lt w f) (set_of_lt w g)) (set_of_lt w (λ i. f i && g i))
    (λ i h. has_and _ _ i ∙ ap₂ ◌&&◌ (has-set_of w f i h) (has-set_of w g i h) ∙ sym (has-set_of w (λ j. f j && g j) i h))

pub set_of_single : (w j : ℕ) → j < w → set_of w (λ i. nat_eq i j) ≡ 2 ^ j
set_of_single w j h = has_ext w _ _ (set_of_lt w _) (pow-lt h) (λ i k. has-set_of w (λ x. nat_eq x j) i k ∙ sym (has_single j i))

pub set_of_none : (w : ℕ) → set_of w (λ i. false) ≡ 0
set_of_none w = has_ext w _ _ (set_of_lt w _) (pow_pos w) (λ i h. has-set_of w (λ x. false) i h ∙ sym (has_none i))

-- ---- tests over all numbers below a bound

pub some_decides : (w : ℕ) (f : ℕ → Bool) → Decides (some_of w f) ((i : ℕ) × (i < w) × (f i ≡ true))
unfolding some_of
some_decides w f = Decides-below_or f (λ i. f i ≡ true) (λ n. some_of n f) (λ k. (λ e. e, λ e. e)) refl (λ n. refl) w

-- ---- containment

-- a set is contained in another exactly if their meet is the set itself
pub and_contained : (w a b : ℕ) → a < 2 ^ w → b < 2 ^ w → (bit_and a b == a) ≡ contained w a b
and_contained w a b la lb =
    same_from_decides _ _
    (λ e i h t. meets i t (eqb-true _ _ e), λ k. eq-eqb _ _ (has_ext w _ _ (and_lt w a b la lb) la (λ i h. has_and a b i ∙ keeps (has a i) (has b i) (k i h))))
    (contained_decides w a b)
  where
    meets : (i : ℕ) → has a i ≡ true → bit_and a b ≡ a → has b i ≡ true
    meets i t e = (and_parts (has a i) (has b i) (sym (has_and a b i) ∙ ap (λ (x : ℕ). has x i) e ∙ t)).1

    keeps : (x y : Bool) → (x ≡ true → y ≡ true) → (x && y) ≡ x
    keeps true y k = k refl
    keeps false y k = refl

-- ---- the numbers below n, and the numbers that a set lacks

pub has_below : (n i : ℕ) → has (2 ^ n - 1) i ≡ nat_lt i n
unfolding has
has_below n i = go (cases_lt i n)
  where
    go : (i < n) ⊎ (n ≤ i) → (bit_at (2 ^ n - 1) i == 1) ≡ nat_lt i n
    go (inl h) = eq-eqb _ _ (bit_at_ones n i h) ∙ sym (lt-ltb i n h)
    go (inr h) = ap (λ (x : ℕ). nat_eq x 1) (bit_at_ones_above n i h) ∙ sym (le-ltb i n h)

pub set_of_below : (w n : ℕ) → n ≤ w → set_of w (λ i. ltb i n) ≡ 2 ^ n - 1
set_of_below w n h = has_ext w _ _ (set_of_lt w _) fits (λ i l. has-set_of w (λ j. ltb j n) i l ∙ sym (has_below n i))
  where
    fits : 2 ^ n - 1 < 2 ^ w
    fits = let pos = pow_pos n in let le : 2 ^ n ≤ 2 ^ w = pow_mono h in omega arith

pub has_complement : (w a i : ℕ) → a < 2 ^ w → i < w → has (2 ^ w - 1 - a) i ≡ not (has a i)
has_complement zero a i h l = absurd (omega arith)
has_complement (suc w) a zero h l = has_zero _ ∙ go (bit_cases a) ∙ ap not (sym (has_zero a))
  where
    h' : a < 2 * 2 ^ w
    h' = rw (pow-succ' 2 w) at h

    go : (a % 2 ≡ 0) ⊎ (a % 2 ≡ 1) → ((2 ^ suc w - 1 - a) % 2 == 1) ≡ not (a % 2 == 1)
    go (inl e) = rw (pow-succ' 2 w) (eq-eqb _ _ (omega arith) ∙ ap not (sym (ne_eqb (a % 2) 1 (omega arith))))
    go (inr e) = rw (pow-succ' 2 w) (ne_eqb _ _ (omega arith) ∙ ap not (sym (eq-eqb (a % 2) 1 e)))
has_complement (suc w) a (suc i) h l =
    has_suc _ i ∙ ap (λ (x : ℕ). has x i) half ∙ has_complement w (a / 2) i (omega arith) (omega arith) ∙ ap not (sym (has_suc a i))
  where
    h' : a < 2 * 2 ^ w
    h' = rw (pow-succ' 2 w) at h

    half : (2 ^ suc w - 1 - a) / 2 ≡ 2 ^ w - 1 - a / 2
    half = rw (pow-succ' 2 w) (omega arith)

-- ---- tests that agree, or that a lower bound settles

pub some_cong : (w : ℕ) (f g : ℕ → Bool) → ((i : ℕ) → i < w → f i ≡ g i) → some_of w f ≡ some_of w g
unfolding some_of
some_cong zero f g e = refl
some_cong (suc w) f g e = ap₂ ◌||◌ (e w (omega arith)) (some_cong w f g (λ i h. e i (omega arith)))

pub every_cong : (w : ℕ) (f g : ℕ → Bool) → ((i : ℕ) → i < w → f i ≡ g i) → every w f ≡ every w g
unfolding every
every_cong zero f g e = refl
every_cong (suc w) f g e = ap₂ ◌&&◌ (e w (omega arith)) (every_cong w f g (λ i h. e i (omega arith)))

-- a lower bound does, where only numbers below it pass or fail
pub some_within : (n w : ℕ) (f : ℕ → Bool) → n ≤ w → ((i : ℕ) → f i ≡ true → i < n) → some_of w f ≡ some_of n f
some_within n w f h k =
    same_from_decides _ _ (some_decides w f) (Decides-like _ (λ s. (s.0, omega (arith, s.1), s.2)) (λ s. (s.0, k s.0 s.2, s.2)) (some_decides n f))

pub every_within : (n w : ℕ) (f : ℕ → Bool) → n ≤ w → ((i : ℕ) → n ≤ i → f i ≡ true) → every w f ≡ every n f
every_within n w f h k = same_from_decides _ _ (every_decides w f) (Decides-like _ widen (λ e i l. e i (omega arith)) (every_decides n f))
  where
    widen : ((i : ℕ) → i < n → f i ≡ true) → (i : ℕ) → i < w → f i ≡ true
    widen e i l = elim (cases_lt i n) [ inl b ↦ e i b | inr b ↦ k i b ]

-- ---- empty sets, and sets that meet or are contained

pub empty_set : (w a : ℕ) → a < 2 ^ w → (a == 0) ≡ every w (λ i. not (has a i))
empty_set w a h = same_from_decides _ _ (none_in, none_then) (every_decides w (λ i. not (has a i)))
  where
    none_in : nat_eq a 0 ≡ true → (i : ℕ) → i < w → not (has a i) ≡ true
    none_in e i l = not_from_false _ (ap (λ (x : ℕ). has x i) (eqb-true a 0 e) ∙ has_none i)

    none_then : ((i : ℕ) → i < w → not (has a i) ≡ true) → (a == 0) ≡ true
    none_then e = eq-eqb a 0 (has_ext w a 0 h (pow_pos w) (λ i l. not-true (has a i) (e i l) ∙ sym (has_none i)))

not_every : (w : ℕ) (f : ℕ → Bool) → not (every w (λ i. not (f i))) ≡ some_of w f
unfolding every some_of
not_every zero f = refl
not_every (suc w) f = go (f w) (every w (λ i. not (f i))) ∙ ap (◌||◌ (f w)) (not_every w f)
  where
    go : (x y : Bool) → not (not x && y) ≡ (x || not y)
    go true y = refl
    go false y = refl

pub some_and : (w a b : ℕ) → a < 2 ^ w → some_of w (λ i. has a i && has b i) ≡ not (bit_and a b == 0)
some_and w a b h =
    some_cong w _ (has (bit_and a b)) (λ i l. sym (has_and a b i)) ∙ sym (not_every w (has (bit_and a b)))
    ∙ ap not (sym (empty_set w (bit_and a b) (omega (arith, and_le_l a b))))

pub contained_and : (w a b : ℕ) → a < 2 ^ w → b < 2 ^ w → contained w a b ≡ (bit_and a (2 ^ w - 1 - b) == 0)
unfolding contained
contained_and w a b h k =
    let c : ℕ = 2 ^ w - 1 - b in
    every_cong w _ (λ i. not (has (bit_and a c) i)) (λ i l. go (has a i) (has b i) ∙ ap not (ap (◌&&◌ (has a i)) (sym (has_complement w b i k l)) ∙ sym (has_and a c i)))
    ∙ sym (empty_set w (bit_and a c) (omega (arith, and_le_l a c)))
  where
    go : (x y : Bool) → (not x || y) ≡ not (x && not y)
    go true true = refl
    go true false = refl
    go false y = refl

-- ---- a set that is made number by number

pub front_none : (w : ℕ) (f : ℕ → Bool) → set_of w (λ q. nat_lt q 0 && f q) ≡ 0
front_none w f = set_of_cong w _ (λ q. false) (λ q h. grind (arith, nat_tests)) ∙ set_of_none w

-- one number more, by what the test says of it
pub front_more : (w i : ℕ) (f : ℕ → Bool) (b : Bool) (s : ℕ) → s ≡ set_of w (λ q. nat_lt q i && f q) → b ≡ f i
    → set_of w (λ q. nat_lt q (i + 1) && f q) ≡ cond b (set_of w (λ q. has s q || q == i)) s
front_more w i f true s e t =
    set_of_cong w _ _ (λ q l. let r : has s q ≡ (nat_lt q i && f q) = ap (λ (x : ℕ). has x q) e ∙ has-set_of w (λ x. nat_lt x i && f x) q l in grind (arith, nat_tests))
front_more w i f false s e t = set_of_cong w _ (λ q. nat_lt q i && f q) (λ q l. grind (arith, nat_tests)) ∙ sym e

-- ---- sets under a fixed test, and what of a set passes a test

pub guarded_true : (w : ℕ) (b : Bool) (f : ℕ → Bool) → b ≡ true → set_of w (λ i. b && f i) ≡ set_of w f
guarded_true w b f e = ap (λ x. set_of w (λ i. x && f i)) e

pub guarded_false : (w : ℕ) (b : Bool) (f : ℕ → Bool) → b ≡ false → set_of w (λ i. b && f i) ≡ 0
guarded_false w b f e = ap (λ x. set_of w (λ i. x && f i)) e ∙ set_of_none w

pub set_of_meet : (w x : ℕ) (f : ℕ → Bool) → x < 2 ^ w → bit_and x (set_of w f) ≡ set_of w (λ i. f i && has x i)
set_of_meet w x f h =
    and_comm x (set_of w f) ∙ ap (bit_and (set_of w f)) (sym (set_of-has w x h)) ∙ set_of_and w f (has x)

-- a set of numbers below v needs v bits only
pub set_narrow : (v w : ℕ) (f : ℕ → Bool) → v ≤ w → ((i : ℕ) → f i ≡ true → i < v) → set_of w f ≡ set_of v f
set_narrow v w f h small =
    has_ext w _ _ (set_of_lt w f) fits (λ i l. has-set_of w f i l ∙ sym (has_set_of_any v f small i))
  where
    fits : set_of v f < 2 ^ w
    fits = let lt = set_of_lt v f in let le : 2 ^ v ≤ 2 ^ w = pow_mono h in omega arith

-- what of a set lies below v
pub set_below : (v w x : ℕ) → v ≤ w → x < 2 ^ w → bit_and x (2 ^ v - 1) ≡ set_of v (has x)
set_below v w x h k =
    ap (bit_and x) (sym (set_of_below w v h)) ∙ set_of_meet w x (λ i. ltb i v) k
    ∙ set_narrow v w (λ i. nat_lt i v && has x i) h (λ i e. ltb-true i v (and_parts _ _ e).0)
    ∙ set_of_cong v _ (has x) (λ i l. ap (λ b. b && has x i) (lt-ltb i v l))

-- of the numbers below k that pass f, one number more
pub set_more : (w k set : ℕ) (f : ℕ → Bool) (test : Bool) → set ≡ set_of w (λ j. nat_lt j k && f j) → test ≡ f k
    → set_of w (λ j. has set j || (test && j == k)) ≡ set_of w (λ j. nat_lt j (k + 1) && f j)
set_more w k set f true e d = sym (front_more w k f true set e d)
set_more w k set f false e d =
    set_of_cong w _ (λ j. nat_lt j k && f j) (λ j h. or-false (has set j) ∙ ap (λ (x : ℕ). has x j) e ∙ has-set_of w _ j h) ∙ sym e
    ∙ sym (front_more w k f false set e d)

-- the members below v of a set of numbers below w
pub set_of_low : (v w set : ℕ) (f : ℕ → Bool) → v ≤ w → set ≡ set_of w f → set_of v (has set) ≡ set_of v f
set_of_low v w set f h e = set_of_cong v _ f (λ i l. ap (λ (x : ℕ). has x i) e ∙ has-set_of w f i (omega arith))

-- a set with what fails a test is the set itself
pub set_unchanged : (w set : ℕ) (f : ℕ → Bool) → set < 2 ^ w → ((i : ℕ) → i < w → f i ≡ false) → set ≡ set_of w (λ i. has set i || f i)
set_unchanged w set f h fails =
    sym (set_of-has w set h) ∙ set_of_cong w (has set) _ (λ i l. sym (ap (λ b. has set i || b) (fails i l) ∙ or-false (has set i)))

-- ---- how many numbers pass a test

pub count_bounded : (w : ℕ) (f : ℕ → Bool) → count w f ≤ w
unfolding count
count_bounded zero f = omega arith
count_bounded (suc w) f = go (f w) (count_bounded w f)
  where
    go : (b : Bool) → count w f ≤ w → count w f + cond b 1 0 ≤ suc w
    go true h = omega arith
    go false h = omega arith
