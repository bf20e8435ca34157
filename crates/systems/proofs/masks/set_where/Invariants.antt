use Rattle.std.proofs.Common.{◌≡◌, ℕ, ◌<◌, Bool, ◌&&◌, nat_lt}
use Rattle.systems.specs.Sets.{set_of}
use Rattle.systems.proofs.masks.set_where.Given as goal

abbrev pub invariant-loop-i : goal.invariant-loop-i
invariant-loop-i g l =
    (T : ℕ → Bool) → ((i : ℕ) (b : Bool) → i < l.n → goal.F-post g l.test i b → b ≡ T i) → l.set ≡ set_of 64 (λ i. nat_lt i l.i && T i)
