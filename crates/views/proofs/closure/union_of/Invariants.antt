use Rattle.std.proofs.Common.{◌≡◌, ℕ, ◌<◌, Bool, true}
use Rattle.systems.specs.Sets.{has, set_of}
use Rattle.views.specs.Weak.{leads}
use Rattle.views.proofs.closure.union_of.Given as goal

abbrev pub invariant-loop-q : goal.invariant-loop-q
invariant-loop-q g l =
    (R : ℕ → ℕ → Bool) → ((q m : ℕ) → q < l.n → has l.set q ≡ true → goal.F-post g l.row q m → m ≡ set_of 64 (R q)) → l.found ≡ set_of 64 (leads l.q (has l.set) R)
