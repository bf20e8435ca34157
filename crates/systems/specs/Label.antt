-- What a label kind is: an order on its labels, and labels read from bytes.
use Rattle.std.specs.Prelude.{◌≡◌, ℕ, ◌+◌, ◌*◌, Bool, true, List, [], ◌∷◌}

-- the two laws of the order "below"
pub record Preorder {L : Type 0} (below : L → L → Bool) : Type 0 where
  pub reflexive : (x : L) → below x x ≡ true
  pub transitive : (x y z : L) → below x y ≡ true → below y z ≡ true → below x z ≡ true

-- the number that bytes stand for, lowest first
abbrev pub number_of : List ℕ → ℕ
number_of [] = 0
number_of (b ∷ bs) = b + 256 * number_of bs
