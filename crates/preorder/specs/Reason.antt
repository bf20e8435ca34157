-- Why a pair cannot stay related: the first kind of reason, then the lowest action, then the lowest target.
use Rattle.std.specs.Prelude.{ℕ, zero, suc, Bool, cond, not, ◌&&◌, Some, None, Option}
use Rattle.systems.specs.Meaning.{Meaning}
use Rattle.systems.specs.Sets.{some_of}
use Rattle.preorder.specs.Prebisimulation.{Relation}

pub record Reason : Type 0 where
  pub kind : ℕ
  pub action : ℕ
  pub target : ℕ

-- x, or y where there is no x
unfoldable pub or_else : {X : Type 0} → Option X → Option X → Option X
or_else (Some x) y = Some x
or_else None y = y

-- the first of f 0, f 1, .. below w that is there
unfoldable pub first : {X : Type 0} → ℕ → (ℕ → Option X) → Option X
first zero f = None
first (suc w) f = or_else (first w f) (f w)

-- x where the test passes
unfoldable pub given : {X : Type 0} → Bool → X → Option X
given b x = cond b (Some x) None

-- The mover goes from p by a to t, and no a-move of the other from q leads to a u with t related to u. Both sides use it.
unfoldable pub unanswered : {L : Type 0} → Meaning L → Meaning L → Relation → ℕ → ℕ → ℕ → ℕ → Bool
unanswered mover other R p q a t = mover.moves p a t && not (some_of other.states (λ u. other.moves q a u && R t u))

module _ {L : Type 0} (m n : Meaning L) (R : Relation) (p q : ℕ) where
  -- kind 1: a move of p by a to the target that q does not answer
  unfoldable pub forth_reason : Option Reason
  forth_reason =
      first m.actions (λ a. first m.states (λ t. given (unanswered m n R p q a t) (record { kind = 1; action = a; target = t })))

  -- kind 2: p is closed on a and q is open on it
  unfoldable pub mark_reason : Option Reason
  mark_reason = first m.actions (λ a. given (not (m.marks p a) && n.marks q a) (record { kind = 2; action = a; target = 0 }))

  -- kind 3: both are closed on a, and there is a move of q by a to the target that p does not answer
  unfoldable pub back_reason : Option Reason
  back_reason =
      first m.actions (λ a. first n.states (λ u.
      given ((not (m.marks p a) && not (n.marks q a)) && unanswered n m (λ x y. R y x) q p a u) (record { kind = 3; action = a; target = u })))

  unfoldable pub reason : Option Reason
  reason = or_else forth_reason (or_else mark_reason back_reason)
