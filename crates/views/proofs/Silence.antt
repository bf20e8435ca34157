-- The computed tests of the weak view agree with the definitions.
use Rattle.std.specs.Prelude.{◌≡◌, ℕ, zero, suc, ◌+◌, ◌<◌, ◌≤◌, Bool, true, false, cond, ◌&&◌, ◌||◌, ◌⊎◌, Decides, ◌==◌, nat_lt, refl}
use Rattle.std.proofs.Common.{sym, ap, inl, inr, arith}
use Rattle.std.proofs.Math.Path.{subst}
use Rattle.std.proofs.Math.Dec.{eqb-suc-zero}
use Rattle.std.proofs.lemmas.Bool.{cases_lt, cases_Bool, both_ways, eqb-true, eq-eqb, ltb-true, lt-ltb, and_parts, and_from, or_cases, or_left, or_right}
use Rattle.std.proofs.lemmas.Bool.Decides.{Decides-at}
use Rattle.systems.specs.Meaning.{Meaning, Bounded}
use Rattle.systems.specs.Sets.{some_of, count}
use Rattle.systems.proofs.Sets.{some_decides}
use Rattle.systems.proofs.Sets.{count_bounded}
use Rattle.views.proofs.Masks.{count_less}
use Rattle.views.specs.Weak.{Silently, stay, step, Diverges, Weakly, leads, through, silent, loops, diverging, comes, view_moves, opens, view_marks, view_by, WeakView}

-- ---- silent moves

module _ {L : Type 0} (m : Meaning L) where
  pub silently_trans : {p q t : ℕ} → Silently m p q → Silently m q t → Silently m p t
  silently_trans stay h = h
  silently_trans (step e g) h = step e (silently_trans g h)

  through_sound : (k p t : ℕ) → through m k p t ≡ true → Silently m p t
  unfolding through
  through_sound zero p t e = go (or_cases (m.moves p 0 t) (t == p) e)
    where
      go : (m.moves p 0 t ≡ true) ⊎ ((t == p) ≡ true) → Silently m p t
      go (inl h) = step h stay
      go (inr h) = subst (λ x. Silently m p x) (sym (eqb-true t p h)) stay
  through_sound (suc k) p t e =
      go (or_cases (through m k p t) _ e) (through_sound k p t) (through_sound k p k) (through_sound k k t)
    where
      go : (through m k p t ≡ true) ⊎ ((through m k p k && through m k k t) ≡ true) → (through m k p t ≡ true → Silently m p t)
          → (through m k p k ≡ true → Silently m p k) → (through m k k t ≡ true → Silently m k t) → Silently m p t
      go (inl h) f g h' = f h
      go (inr h) f g h' = let (x, y) = and_parts _ _ h in silently_trans (g x) (h' y)

  through_more : (k p t : ℕ) → through m k p t ≡ true → through m (suc k) p t ≡ true
  unfolding through
  through_more k p t e = or_left _ _ e

  through_via : (k p t : ℕ) → through m k p k ≡ true → through m k k t ≡ true → through m (suc k) p t ≡ true
  unfolding through
  through_via k p t e d = or_right _ _ (and_from _ _ e d)

  through_from_zero : (k p t : ℕ) → through m 0 p t ≡ true → through m k p t ≡ true
  through_from_zero zero p t e = e
  through_from_zero (suc k) p t e = through_more k p t (through_from_zero k p t e)

  -- what passes only through states below k can be joined at a state below k
  through-joined : (k p j t : ℕ) → j < k → through m k p j ≡ true → through m k j t ≡ true → through m k p t ≡ true
  unfolding through
  through-joined zero p j t l e d = absurd (omega arith)
  through-joined (suc k) p j t l e d =
      go (cases_lt j k) (or_cases (through m k p j) _ e) (or_cases (through m k j t) _ d) (λ x y h. through-joined k x j y h)
    where
      from : (through m k p j ≡ true) ⊎ ((through m k p k && through m k k j) ≡ true) → j ≡ k → through m k p k ≡ true
      from (inl x) same = subst (λ i. through m k p i ≡ true) same x
      from (inr x) same = (and_parts _ _ x).0

      onward : (through m k j t ≡ true) ⊎ ((through m k j k && through m k k t) ≡ true) → j ≡ k → through m k k t ≡ true
      onward (inl y) same = subst (λ i. through m k i t ≡ true) same y
      onward (inr y) same = (and_parts _ _ y).1

      go : (j < k) ⊎ (k ≤ j) → (through m k p j ≡ true) ⊎ ((through m k p k && through m k k j) ≡ true)
          → (through m k j t ≡ true) ⊎ ((through m k j k && through m k k t) ≡ true)
          → ((x y : ℕ) → j < k → through m k x j ≡ true → through m k j y ≡ true → through m k x y ≡ true) → through m (suc k) p t ≡ true
      go (inl h) (inl x) (inl y) ih = through_more k p t (ih p t h x y)
      go (inl h) (inl x) (inr y) ih = through_via k p t (ih p k h x (and_parts _ _ y).0) (and_parts _ _ y).1
      go (inl h) (inr x) (inl y) ih = through_via k p t (and_parts _ _ x).0 (ih k t h (and_parts _ _ x).1 y)
      go (inl h) (inr x) (inr y) ih = through_via k p t (and_parts _ _ x).0 (and_parts _ _ y).1
      go (inr h) x y ih = let same : j ≡ k = omega arith in through_via k p t (from x same) (onward y same)

module _ {L : Type 0} (m : Meaning L) (bounded : Bounded m) where
  silent_complete : {p t : ℕ} → Silently m p t → silent m p t ≡ true
  unfolding through
  silent_complete {p} stay = through_from_zero m m.states p p (or_right _ _ (eq-eqb p p refl))
  silent_complete {p} {t} (step {q = q} e h) =
      through-joined m m.states p q t (bounded.moves_present p 0 q e).2 (through_from_zero m m.states p q (or_left _ _ e)) (silent_complete h)

  pub silent_decides : (p t : ℕ) → Decides (silent m p t) (Silently m p t)
  silent_decides p t = (through_sound m m.states p t, silent_complete)

-- ---- divergence

leads_decides : (n : ℕ) (x : ℕ → Bool) (r : ℕ → ℕ → Bool) (t : ℕ) → Decides (leads n x r t) ((q : ℕ) × (q < n) × (x q ≡ true) × (r q t ≡ true))
unfolding leads
leads_decides n x r t =
    let d = some_decides n (λ q. x q && r q t) in
    (λ e. let (q, l, both) = d.0 e in let (h, k) = and_parts _ _ both in (q, l, h, k), λ s. d.1 (s.0, s.1, and_from _ _ s.2 s.3))

module _ {L : Type 0} (m : Meaning L) (bounded : Bounded m) where
  -- t comes back to itself by silent moves, one or more
  abbrev Loops : ℕ → Type 0
  Loops t = (u : ℕ) × (m.moves t 0 u ≡ true) × Silently m u t

  loops_decides : (t : ℕ) → Decides (loops m t) (Loops t)
  unfolding loops
  loops_decides t =
      let d = leads_decides m.states (m.moves t 0) (silent m) t in (
        λ e. let (u, l, x, y) = d.0 (and_parts (nat_lt t m.states) _ e).1 in (u, x, (silent_decides m bounded u t).0 y),
        λ s.
            let (t<, z, u<) = bounded.moves_present t 0 s.0 s.1 in
            and_from _ _ (lt-ltb t m.states t<) (d.1 (s.0, u<, s.1, (silent_decides m bounded s.0 t).1 s.2)),
      )

  -- a state that loops has a silent move
  loops-present : (t : ℕ) → Loops t → t < m.states
  loops-present t s = (bounded.moves_present t 0 s.0 s.1).0

  -- where a state comes silently to one that loops, the state is diverging
  diverging_from : (p t : ℕ) → Silently m p t → Loops t → diverging m p ≡ true
  unfolding diverging
  diverging_from p t h s =
      and_from _ _ (lt-ltb p m.states (begins h))
      ((some_decides m.states (λ u. silent m p u && loops m u)).1
      (t, loops-present t s, and_from _ _ ((silent_decides m bounded p t).1 h) ((loops_decides t).1 s)))
    where
      begins : {q : ℕ} → Silently m q t → q < m.states
      begins stay = loops-present t s
      begins {q} (step e g) = (bounded.moves_present q 0 _ e).0

  diverging_to : (p : ℕ) → diverging m p ≡ true → (t : ℕ) × Silently m p t × Loops t
  unfolding diverging
  diverging_to p e =
      let (t, l, both) = (some_decides m.states (λ u. silent m p u && loops m u)).0 (and_parts (nat_lt p m.states) _ e).1 in
      let (x, y) = and_parts _ _ both in
      (t, (silent_decides m bounded p t).0 x, (loops_decides t).0 y)

  -- a diverging state has a silent move to a diverging state
  next : (p : ℕ) → diverging m p ≡ true → (q : ℕ) × (m.moves p 0 q ≡ true) × (diverging m q ≡ true)
  next p e = let (t, h, s) = diverging_to p e in go h s
    where
      go : {q t : ℕ} → Silently m q t → Loops t → (u : ℕ) × (m.moves q 0 u ≡ true) × (diverging m u ≡ true)
      go {q} {t} stay s = (s.0, s.1, diverging_from s.0 t s.2 s)
      go {t = t} (step {q = u} e h) s = (u, e, diverging_from u t h s)

  pub diverging_decides : (p : ℕ) → Decides (diverging m p) (Diverges m p)
  diverging_decides p = (for_ever, λ s. go s (cases_Bool (diverging m p)))
    where
      walk : diverging m p ≡ true → ℕ → (q : ℕ) × (diverging m q ≡ true)
      walk e zero = (p, e)
      walk e (suc i) = let n = next (walk e i).0 (walk e i).1 in (n.0, n.2)

      for_ever : diverging m p ≡ true → Diverges m p
      for_ever e = (λ i. (walk e i).0, refl, λ i. (next (walk e i).0 (walk e i).1).1)

      along : (s : Diverges m p) (i : ℕ) → Silently m p (s.0 i)
      along s zero = subst (λ q. Silently m q (s.0 0)) s.1 stay
      along s (suc i) = silently_trans m (along s i) (step (s.2 i) stay)

      -- with no loop on the way each step leaves a state behind for good, and there are only so many
      fewer : (s : Diverges m p) → diverging m p ≡ false → (i : ℕ) → count m.states (silent m (s.0 i)) + i ≤ m.states
      fewer s e zero = let h = count_bounded m.states (silent m (s.0 0)) in omega arith
      fewer s e (suc i) =
          let h = fewer s e i in
          let less = count_less (silent m (s.0 (suc i))) (silent m (s.0 i)) m.states
          (λ t l x. (silent_decides m bounded (s.0 i) t).1 (step (s.2 i) ((silent_decides m bounded (s.0 (suc i)) t).0 x)))
          (s.0 i) (bounded.moves_present _ 0 _ (s.2 i)).0 (left i (cases_Bool (silent m (s.0 (suc i)) (s.0 i)))) ((silent_decides m bounded (s.0 i) (s.0 i)).1 stay) in
          omega arith
        where
          left : (j : ℕ) → (silent m (s.0 (suc j)) (s.0 j) ≡ true) ⊎ (silent m (s.0 (suc j)) (s.0 j) ≡ false) → silent m (s.0 (suc j)) (s.0 j) ≡ false
          left j (inl x) = absurd (both_ways _ e (diverging_from p (s.0 j) (along s j) (s.0 (suc j), s.2 j, (silent_decides m bounded _ _).0 x)))
          left j (inr x) = x

      go : Diverges m p → (diverging m p ≡ true) ⊎ (diverging m p ≡ false) → diverging m p ≡ true
      go s (inl e) = e
      go s (inr e) = let h = fewer s e (suc m.states) in absurd (omega arith)

-- ---- the view

module _ {L : Type 0} (m : Meaning L) (bounded : Bounded m) (c : ℕ → ℕ → Bool) (d : ℕ → Bool)
    (cs : (p t : ℕ) → p < m.states → t < m.states → Decides (c p t) (Silently m p t))
    (ds : (p : ℕ) → p < m.states → Decides (d p) (Diverges m p)) where
  comes_decides : (p a t : ℕ) → p < m.states → t < m.states → Decides (comes m c p a t) (Weakly m p a t)
  unfolding comes
  comes_decides p zero t p< t< = cs p t p< t<
  comes_decides p (suc a) t p< t< =
      Decides-at _ _ (ap (λ b. cond b (c p t) (leads m.states after c t)) (eqb-suc-zero a)) (
        λ e.
            let (u, u<, x, y) = (leads_decides m.states after c t).0 e in
            let (q, q<, z, move) = (leads_decides m.states (c p) (λ q. m.moves q (suc a)) u).0 x in
            (q, u, (cs p q p< q<).0 z, move, (cs u t u< t<).0 y),
        λ h.
            let (q<, a<, u<) = bounded.moves_present h.0 (suc a) h.1 h.3 in
            (leads_decides m.states after c t).1 (
              h.1,
              u<,
              (leads_decides m.states (c p) (λ q. m.moves q (suc a)) h.1).1 (h.0, q<, (cs p h.0 p< q<).1 h.2, h.3),
              (cs h.1 t u< t<).1 h.4,
            ),
      )
    where
      after : ℕ → Bool
      after = leads m.states (c p) (λ q. m.moves q (suc a))

  view_moves_decides : (p a t : ℕ) → Decides (view_moves m c p a t) ((p < m.states) × (a < m.actions) × (t < m.states) × Weakly m p a t)
  unfolding view_moves
  view_moves_decides p a t = (
    λ e.
        let (x, y) = and_parts _ _ e in
        let (p<, a<) = and_parts (nat_lt p m.states) _ x in
        let (t<, h) = and_parts (nat_lt t m.states) _ y in
        let p≤ = ltb-true p m.states p< in
        let t≤ = ltb-true t m.states t< in
        (p≤, ltb-true a m.actions a<, t≤, (comes_decides p a t p≤ t≤).0 h),
    λ h.
        and_from _ _ (and_from _ _ (lt-ltb p m.states h.0) (lt-ltb a m.actions h.1))
        (and_from _ _ (lt-ltb t m.states h.2) ((comes_decides p a t h.0 h.2).1 h.3)),
  )

  view_marks_decides : (p a : ℕ)
      → Decides (view_marks m c d p a) ((p < m.states) × (a < m.actions) × (Diverges m p ⊎ ((t : ℕ) × Weakly m p a t × Diverges m t)))
  unfolding view_marks opens
  view_marks_decides p a = (
    λ e.
        let (p<, x) = and_parts (nat_lt p m.states) _ e in
        let (a<, y) = and_parts (nat_lt a m.actions) _ x in
        let p≤ = ltb-true p m.states p< in
        (p≤, ltb-true a m.actions a<, from p≤ (or_cases (d p) _ y)),
    λ h. and_from _ _ (lt-ltb p m.states h.0) (and_from _ _ (lt-ltb a m.actions h.1) (into h.0 h.1 h.2)),
  )
    where
      some : Decides (some_of m.states (λ t. view_moves m c p a t && d t)) ((t : ℕ) × (t < m.states) × ((view_moves m c p a t && d t) ≡ true))
      some = some_decides m.states (λ t. view_moves m c p a t && d t)

      from : p < m.states → (d p ≡ true) ⊎ (some_of m.states (λ t. view_moves m c p a t && d t) ≡ true)
          → Diverges m p ⊎ ((t : ℕ) × Weakly m p a t × Diverges m t)
      from p≤ (inl e) = inl ((ds p p≤).0 e)
      from p≤ (inr e) =
          let (t, t<, both) = some.0 e in
          let (x, y) = and_parts _ _ both in
          inr (t, ((view_moves_decides p a t).0 x).3, (ds t t<).0 y)

      into : p < m.states → a < m.actions → Diverges m p ⊎ ((t : ℕ) × Weakly m p a t × Diverges m t)
          → (d p || some_of m.states (λ t. view_moves m c p a t && d t)) ≡ true
      into p≤ a≤ (inl s) = or_left _ _ ((ds p p≤).1 s)
      into p≤ a≤ (inr x) =
          let (t, h, s) = x in
          let t< : t < m.states = subst (λ q. q < m.states) s.1 (bounded.moves_present (s.0 0) 0 (s.0 1) (s.2 0)).0 in
          or_right _ _ (some.1 (t, t<, and_from _ _ ((view_moves_decides p a t).1 (p≤, a≤, t<, h)) ((ds t t<).1 s)))

  pub view_correct : WeakView m (view_by m c d)
  view_correct = record {
    states = refl;
    actions = refl;
    start = refl;
    label = λ p. refl;
    moves = view_moves_decides;
    marks = view_marks_decides;
  }
