-- The weak view, as the code answers for it.
use Rattle.std.specs.Prelude.{◌≡◌, ℕ, ◌^◌, ◌<◌, Bool, true, false, cond, ◌&&◌, ◌||◌, ltb, List, ◌≢◌, bit_and, nat_lt, slice_index}
use Rattle.std.proofs.Math.Path.{sym, ap, ap₂}
use Rattle.std.proofs.Common.{subst, ◌∙◌, arith}
use Rattle.std.proofs.Math.Bool.{and-true}
use Rattle.std.proofs.lemmas.Bool.{lt-ltb, eq-eqb, ne_eqb, and_parts, and_from}
use Rattle.std.proofs.lemmas.Bool.Decides.{Decides-at}
use Rattle.systems.specs.Meaning.{Meaning, Bounded}
use Rattle.systems.specs.Sets.{has, set_of, some_of}
use Rattle.systems.proofs.Sets.{has-set_of, set_of_cong, set_of-has, set_of_lt, set_of_meet, guarded_true, some_cong, some_within}
use Rattle.views.specs.Weak.{in_rows, overlap, leads, silent_rows, diverging, comes, view_moves, opens, view_marks, view_over, WeakView}
use Rattle.views.specs.Bounds.{moves_within}
use Rattle.views.proofs.Rows.{row-silent}
use Rattle.views.proofs.Silence.{silent_decides, diverging_decides, view_correct}

module _ {L : Type 0} (m : Meaning L) (bounded : Bounded m) where
  module _ (rows : List ℕ) where
    abbrev row : ℕ → ℕ → Bool
    row = in_rows rows

    pub comes-silent : (p a : ℕ) → slice_index rows p < 2 ^ 64 → a ≡ 0 → slice_index rows p ≡ set_of 64 (comes m row p a)
    unfolding comes
    comes-silent p a h e =
        sym (set_of_cong 64 _ _ (λ t l. ap (λ b. cond b (row p t) (leads m.states (leads m.states (row p) (λ q. m.moves q a)) row t)) (eq-eqb a 0 e)) ∙ set_of-has 64 (slice_index rows p) h)

    pub comes_onward : (n p a set : ℕ) → n ≡ m.states → (a ≢ 0) → set ≡ set_of 64 (leads m.states (row p) (λ q. m.moves q a))
        → set_of 64 (leads n (has set) row) ≡ set_of 64 (comes m row p a)
    unfolding comes leads
    comes_onward n p a set same ne e =
        let few = bounded.few_states in
        ap (λ k. set_of 64 (leads k (has set) row)) same
        ∙ set_of_cong 64 _ _ (λ t l.
        some_cong m.states _ _ (λ q k. ap (λ b. b && row q t) (ap (λ x. has x q) e ∙ has-set_of 64 _ q (omega arith)))
        ∙ sym (ap (λ b. cond b (row p t) (leads m.states (leads m.states (row p) (λ q. m.moves q a)) row t)) (ne_eqb a 0 ne)))

    pub moves_found : (n p a set : ℕ) → n ≡ m.states → p < m.states → a < m.actions → set ≡ set_of 64 (comes m row p a)
        → bit_and set (set_of 64 (λ i. ltb i n)) ≡ set_of 64 (view_moves m row p a)
    unfolding view_moves
    moves_found n p a set same p< a< e =
        set_of_meet 64 set _ (subst (λ x. x < 2 ^ 64) (sym e) (set_of_lt 64 _))
        ∙ set_of_cong 64 _ _ (λ t l. ap₂ (λ k b. nat_lt t k && b) same (ap (λ x. has x t) e ∙ has-set_of 64 (comes m row p a) t l))
        ∙ sym (guarded_true 64 _ _ (and_from _ _ (lt-ltb p m.states p<) (lt-ltb a m.actions a<)))

    -- of a state that does not diverge itself, by the states that it moves to in the view
    pub marks_found : (set p n : ℕ) → n ≡ m.actions → p < m.states → has set p ≡ false
        → set_of 32 (λ a. nat_lt a n && overlap (set_of 64 (view_moves m row p a)) set) ≡ set_of 32 (view_marks m row (has set) p)
    unfolding view_marks opens
    marks_found set p n same p< ends =
        ap (λ k. set_of 32 (λ a. nat_lt a k && overlap (set_of 64 (view_moves m row p a)) set)) same
        ∙ set_of_cong 32 _ _ (λ a h. ap (◌&&◌ (nat_lt a m.actions)) (onward a ∙ ap (λ b. b || some_of m.states (λ t. view_moves m row p a t && has set t)) (sym ends)))
        ∙ sym (guarded_true 32 _ _ (lt-ltb p m.states p<))
      where
        onward : (a : ℕ) → overlap (set_of 64 (view_moves m row p a)) set ≡ some_of m.states (λ t. view_moves m row p a t && has set t)
        onward a =
            some_cong 64 _ (λ t. view_moves m row p a t && has set t) (λ t l. ap (λ b. b && has set t) (has-set_of 64 (view_moves m row p a) t l))
            ∙ some_within m.states 64 _ bounded.few_states (λ t k. (moves_within m bounded row p a t (and_parts _ _ k).0).2)

    -- and of one that does, all
    pub marks_all : (set p n : ℕ) → n ≡ m.actions → p < m.states → has set p ≡ true → set_of 32 (λ a. nat_lt a n) ≡ set_of 32 (view_marks m row (has set) p)
    unfolding view_marks opens
    marks_all set p n same p< on =
        ap (λ k. set_of 32 (λ a. nat_lt a k)) same
        ∙ set_of_cong 32 _ _ (λ a h. sym (and-true (nat_lt a m.actions))
        ∙ ap (λ b. nat_lt a m.actions && (b || some_of m.states (λ t. view_moves m row p a t && has set t))) (sym on))
        ∙ sym (guarded_true 32 _ _ (lt-ltb p m.states p<))

    -- with the rows of silent closures and the set of the diverging states the view is the weak view
    pub view_is_weak : (set : ℕ) → rows ≡ silent_rows m → set ≡ set_of 64 (diverging m) → WeakView m (view_over m rows set)
    view_is_weak set closed e =
        let few = bounded.few_states in
        view_correct m bounded row (has set)
        (λ p t p< t<. Decides-at _ _ (row-silent m bounded rows closed p t p< (omega arith)) (silent_decides m bounded p t))
        (λ p p<. Decides-at _ _ (ap (λ x. has x p) e ∙ has-set_of 64 (diverging m) p (omega arith)) (diverging_decides m bounded p))
