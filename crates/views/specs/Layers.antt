-- The open and the closed layer: a system with other marks.
use Rattle.std.specs.Prelude.{ℕ, Bool, false, ◌&&◌, nat_lt}
use Rattle.systems.specs.Meaning.{Meaning}

-- the system m with the marks f
abbrev pub marked : {L : Type 0} → Meaning L → (ℕ → ℕ → Bool) → Meaning L
marked m f = record m { marks = f }

-- state p and action a are present
unfoldable pub present : ℕ → ℕ → ℕ → ℕ → Bool
present states actions p a = nat_lt p states && nat_lt a actions

-- every present state is open on every present action
abbrev pub all_open : {L : Type 0} → Meaning L → Meaning L
all_open m = marked m (present m.states m.actions)

-- no state is open on any action
abbrev pub all_closed : {L : Type 0} → Meaning L → Meaning L
all_closed m = marked m (λ p a. false)
