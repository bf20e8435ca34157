-- The sets that a system's questions give have the meaning's own members.
use Rattle.std.proofs.Common.{◌≡◌, ℕ, arith}
use Rattle.systems.specs.Meaning.{Meaning, Bounded}
use Rattle.systems.specs.Sets.{has, set_of}
use Rattle.systems.proofs.Sets.{has_set_of_any}

module _ {L : Type 0} (m : Meaning L) (b : Bounded m) where
  pub has_marks : (p a : ℕ) → has (set_of 32 (m.marks p)) a ≡ m.marks p a
  has_marks p = has_set_of_any 32 (m.marks p) (λ a e. omega (arith, (b.marks_present p a e).1, b.few_actions))

  pub has_reach : (p a t : ℕ) → has (set_of 64 (m.moves p a)) t ≡ m.moves p a t
  has_reach p a = has_set_of_any 64 (m.moves p a) (λ t e. omega (arith, (b.moves_present p a t e).2, b.few_states))
