-- The sets of states that pass a test, and the tests that the code makes on whole sets.
use Rattle.std.proofs.Common.{◌≡◌, ℕ, Bool, not, ◌&&◌, ◌||◌, ltb, ap, ◌∙◌, ap₂, arith}
use Rattle.std.proofs.lemmas.Bool.{and_parts}
use Rattle.systems.specs.Meaning.{Meaning, Bounded}
use Rattle.systems.specs.Sets.{has, set_of, some_of, contained}
use Rattle.formulas.specs.NodeSets.{states_where, can_enter, must_enter}
use Rattle.systems.proofs.Questions.{has_marks, has_reach}
use Rattle.systems.specs.Containment.{decides_implies}
use Rattle.systems.proofs.Sets.{some_cong, some_within, every_cong, every_within}

-- the set of the numbers below the number of states that pass a test, as the code asks for it
module _ {L : Type 0} (m : Meaning L) where
  pub states_where_is : (f : ℕ → Bool) {n s : ℕ} → n ≡ m.states → s ≡ set_of 64 (λ p. ltb p n && f p) → s ≡ states_where m f
  unfolding states_where
  states_where_is f h e = e ∙ ap (λ (k : ℕ). set_of 64 (λ p. ltb p k && f p)) h

module _ {L : Type 0} (m : Meaning L) (b : Bounded m) where
  module _ (p a set : ℕ) {reach : ℕ} (r : reach ≡ set_of 64 (m.moves p a)) where
    member : (t : ℕ) → has reach t ≡ m.moves p a t
    member t = ap (λ (n : ℕ). has n t) r ∙ has_reach m b p a t

    pub can_enter_is : {x : Bool} → x ≡ some_of 64 (λ t. has reach t && has set t) → x ≡ can_enter m a set p
    unfolding can_enter
    can_enter_is e =
        e ∙ some_cong 64 _ _ (λ t h. ap (λ (y : Bool). y && has set t) (member t))
        ∙ some_within m.states 64 _ b.few_states (λ t h. (b.moves_present p a t (and_parts _ _ h).0).2)

    -- y: the state is open on the action
    pub must_enter_is : (y : Bool) {x : Bool} → y ≡ has (set_of 32 (m.marks p)) a → x ≡ contained 64 reach set → (not y && x) ≡ must_enter m a set p
    unfolding must_enter contained
    must_enter_is y h e =
        ap₂ (λ (v w : Bool). not v && w) (h ∙ has_marks m b p a)
        (e ∙ every_cong 64 _ _ (λ t l. ap (λ (z : Bool). not z || has set t) (member t))
        ∙ every_within m.states 64 _ b.few_states (λ t l. (decides_implies (m.moves p a t) (has set t)).1 (λ k. absurd (omega (arith, (b.moves_present p a t k).2)))))
