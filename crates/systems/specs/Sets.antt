-- Sets of states and of actions, held as numbers: bit i stands for number i.
use Rattle.std.specs.Prelude.{ℕ, zero, suc, ◌+◌, ◌*◌, ◌/◌, ◌%◌, ◌^◌, Bool, true, false, cond, not, ◌&&◌, ◌||◌, ◌==◌}

-- whether i is in the set m
unfoldable pub has : ℕ → ℕ → Bool
has m i = m / 2 ^ i % 2 == 1

-- the set of the numbers below w that pass the test f
unfoldable pub set_of : ℕ → (ℕ → Bool) → ℕ
set_of zero f = 0
set_of (suc w) f = cond (f 0) 1 0 + 2 * set_of w (λ i. f (suc i))

-- whether each number below w passes the test f
unfoldable pub every : ℕ → (ℕ → Bool) → Bool
every zero f = true
every (suc w) f = f w && every w f

-- whether some number below w passes the test f
unfoldable pub some_of : ℕ → (ℕ → Bool) → Bool
some_of zero f = false
some_of (suc w) f = f w || some_of w f

-- how many numbers below w pass the test f
unfoldable pub count : ℕ → (ℕ → Bool) → ℕ
count zero f = 0
count (suc w) f = count w f + cond (f w) 1 0

-- whether the set m is contained in the set n, both of numbers below w
unfoldable pub contained : ℕ → ℕ → ℕ → Bool
contained w m n = every w (λ i. not (has m i) || has n i)
