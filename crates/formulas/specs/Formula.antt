-- Formulas, when a state satisfies one, and how deep one is.
use Rattle.std.specs.Prelude.{◌≡◌, ℕ, suc, max, Bool, true, false, ◌⊎◌}
use Rattle.systems.specs.Meaning.{Meaning}

pub data Formula (L : Type 0) : Type 0 where
  -- tt and ff
  top : Formula L
  bottom : Formula L
  -- label l
  labelled : L → Formula L
  -- and, or
  both : Formula L → Formula L → Formula L
  either : Formula L → Formula L → Formula L
  -- <a> and [a]
  diamond : ℕ → Formula L → Formula L
  box : ℕ → Formula L → Formula L

-- The state p of the system m satisfies a formula. A label l holds where l is below the state's own label. <a>f holds
-- where some a-move leads to a state that satisfies f; [a]f where the state is closed on a and every a-move leads to one.
abbrev pub Satisfies : {L : Type 0} → (L → L → Bool) → Meaning L → ℕ → Formula L → Type 0
Satisfies below m p top = Unit {0}
Satisfies below m p bottom = ⊥
Satisfies below m p (labelled l) = below l (m.label p) ≡ true
Satisfies below m p (both f g) = Satisfies below m p f × Satisfies below m p g
Satisfies below m p (either f g) = Satisfies below m p f ⊎ Satisfies below m p g
Satisfies below m p (diamond a f) = (t : ℕ) × (m.moves p a t ≡ true) × Satisfies below m t f
Satisfies below m p (box a f) = (m.marks p a ≡ false) × ((t : ℕ) → m.moves p a t ≡ true → Satisfies below m t f)

-- the deepest nesting of <a> and [a]
abbrev pub depth : {L : Type 0} → Formula L → ℕ
depth top = 0
depth bottom = 0
depth (labelled l) = 0
depth (both f g) = max (depth f) (depth g)
depth (either f g) = max (depth f) (depth g)
depth (diamond a f) = suc (depth f)
depth (box a f) = suc (depth f)
