-- What the search for a reason finds, and what it means to find none.
use Rattle.std.proofs.Common.{◌≡◌, ℕ, zero, suc, ◌<◌, ◌≤◌, Bool, true, false, not, ◌&&◌, ◌||◌, ◌⊎◌, Some, None, Option, refl, ap, subst, ap₂, inl, inr, ⊎_elim, arith}
use Rattle.std.proofs.lemmas.Bool.{cases_lt, cases_Bool, and_parts, and_from, not-true, not-false, both_ways}
use Rattle.std.proofs.lemmas.Bool.Decides.{not_from_Decides}
use Rattle.systems.specs.Meaning.{Meaning, Bounded}
use Rattle.systems.specs.Sets.{some_of}
use Rattle.systems.proofs.Sets.{some_decides}
use Rattle.preorder.specs.Prebisimulation.{Relation, Transfers}
use Rattle.preorder.specs.Reason.{Reason, or_else, first, given, unanswered, forth_reason, mark_reason, back_reason, reason}
use Rattle.preorder.proofs.Invariant.{Justified, forth_justified, mark_justified, back_justified}

-- ---- the first that is there

module _ {X : Type 0} where
  or_else_some : (x y : Option X) (z : X) → or_else x y ≡ Some z → (x ≡ Some z) ⊎ (y ≡ Some z)
  unfolding or_else
  or_else_some (Some x) y z e = inl e
  or_else_some None y z e = inr e

  or_else_none : (x y : Option X) → or_else x y ≡ None → (x ≡ None) × (y ≡ None)
  unfolding or_else
  or_else_none (Some x) y e = absurd (grind arith)
  or_else_none None y e = (refl, e)

  first_some : (w : ℕ) (f : ℕ → Option X) (x : X) → first w f ≡ Some x → (i : ℕ) × (i < w) × (f i ≡ Some x)
  unfolding first
  first_some zero f x e = absurd (grind arith)
  first_some (suc w) f x e =
      ⊎_elim (λ h. let r = first_some w f x h in (r.0, omega arith, r.2)) (λ h. (w, omega arith, h))
      (or_else_some (first w f) (f w) x e)

  first_none : (w : ℕ) (f : ℕ → Option X) → first w f ≡ None → (i : ℕ) → i < w → f i ≡ None
  unfolding first
  first_none zero f e i h = absurd (omega arith)
  first_none (suc w) f e i h = go (cases_lt i w) (or_else_none (first w f) (f w) e) (first_none w f)
    where
      go : (i < w) ⊎ (w ≤ i) → (first w f ≡ None) × (f w ≡ None) → (first w f ≡ None → (j : ℕ) → j < w → f j ≡ None) → f i ≡ None
      go (inl lt) r ih = ih r.0 i lt
      go (inr ge) r ih = let e : i ≡ w = omega arith in rw e r.1

  first_cong : (w : ℕ) (f g : ℕ → Option X) → ((i : ℕ) → i < w → f i ≡ g i) → first w f ≡ first w g
  unfolding first
  first_cong zero f g e = refl
  first_cong (suc w) f g e = ap₂ or_else (first_cong w f g (λ i h. e i (omega arith))) (e w (omega arith))

  given_some : (b : Bool) (x y : X) → given b x ≡ Some y → (b ≡ true) × (x ≡ y)
  unfolding given
  given_some true x y e = (refl, cc)
  given_some false x y e = absurd (grind arith)

  given_none : (b : Bool) (x : X) → given b x ≡ None → b ≡ false
  unfolding given
  given_none true x e = absurd (grind arith)
  given_none false x e = refl

-- ---- an unanswered move

module _ {L : Type 0} (mover other : Meaning L) (R : Relation) (p q a t : ℕ) where
  -- it is a move, and no answer of the other to a present state is related
  pub unanswered_says : unanswered mover other R p q a t ≡ true
      → (mover.moves p a t ≡ true) × ((u : ℕ) → u < other.states → other.moves q a u ≡ true → R t u ≡ true → ⊥)
  unfolding unanswered
  unanswered_says e =
      let parts = and_parts (mover.moves p a t) _ e in
      (parts.0, λ u h move rel. not_from_Decides _ (some_decides _ _) (not-true _ parts.1) (u, h, and_from _ _ move rel))

  -- a move that is not unanswered has an answer
  answered_says : unanswered mover other R p q a t ≡ false → mover.moves p a t ≡ true
      → (u : ℕ) × (other.moves q a u ≡ true) × (R t u ≡ true)
  unfolding unanswered
  answered_says e move =
      let found = (some_decides other.states (λ u. other.moves q a u && R t u)).0 (not-false _ (rw move at e)) in
      let parts = and_parts (other.moves q a found.0) (R t found.0) found.2 in
      (found.0, parts.0, parts.1)

-- ---- a reason found

module _ {L : Type 0} (m n : Meaning L) (R : Relation) (p q : ℕ) where
  forth_reason_justified : (r : Reason) → forth_reason m n R p q ≡ Some r → Justified m n R p q r
  unfolding forth_reason
  forth_reason_justified r e =
      let fa = first_some m.actions _ r e in
      let ft = first_some m.states _ r fa.2 in
      let g = given_some _ _ r ft.2 in
      subst (Justified m n R p q) g.1 (forth_justified fa.0 ft.0 fa.1 ft.1 g.0)

  mark_reason_justified : (r : Reason) → mark_reason m n R p q ≡ Some r → Justified m n R p q r
  unfolding mark_reason
  mark_reason_justified r e =
      let fa = first_some m.actions _ r e in
      let g = given_some _ _ r fa.2 in
      let marks = and_parts (not (m.marks p fa.0)) _ g.0 in
      subst (Justified m n R p q) g.1 (mark_justified fa.0 fa.1 (not-true _ marks.0) marks.1)

  back_reason_justified : (r : Reason) → back_reason m n R p q ≡ Some r → Justified m n R p q r
  unfolding back_reason
  back_reason_justified r e =
      let fa = first_some m.actions _ r e in
      let fu = first_some n.states _ r fa.2 in
      let g = given_some _ _ r fu.2 in
      let parts = and_parts (not (m.marks p fa.0) && not (n.marks q fa.0)) _ g.0 in
      let marks = and_parts (not (m.marks p fa.0)) _ parts.0 in
      subst (Justified m n R p q) g.1
      (back_justified fa.0 fu.0 fa.1 fu.1 (not-true _ marks.0) (not-true _ marks.1) parts.1)

  pub reason_justified : (r : Reason) → reason m n R p q ≡ Some r → Justified m n R p q r
  unfolding reason
  reason_justified r e =
      ⊎_elim (forth_reason_justified r) (λ e'. ⊎_elim (mark_reason_justified r) (back_reason_justified r)
      (or_else_some (mark_reason m n R p q) (back_reason m n R p q) r e'))
      (or_else_some (forth_reason m n R p q) _ r e)

-- a justified reason leaves no way to transfer the pair
pub justified_refutes : {L : Type 0} (below : L → L → Bool) (m n : Meaning L) (bm : Bounded m) (bn : Bounded n)
    (R : Relation) (p q : ℕ) (r : Reason) → Justified m n R p q r → Transfers below m n (λ t u. R t u ≡ true) p q → ⊥
justified_refutes below m n bm bn R p q r (forth_justified a t la lt e) T =
    let says = unanswered_says m n R p q a t e in
    let (u, move, rel) = T.forth a t says.0 in
    says.1 u (bn.moves_present q a u move).2 move rel
justified_refutes below m n bm bn R p q r (mark_justified a la shut open-on) T = both_ways _ (T.closed a shut) open-on
justified_refutes below m n bm bn R p q r (back_justified a u la lu shut shut' e) T =
    let says = unanswered_says n m (λ x y. R y x) q p a u e in
    let (t, move, rel) = T.back a u shut says.0 in
    says.1 t (bm.moves_present p a t move).2 move rel

-- ---- no reason found

module _ {L : Type 0} (below : L → L → Bool) (m n : Meaning L) (bm : Bounded m) (bn : Bounded n) (same : m.actions ≡ n.actions)
    (R : Relation) (p q : ℕ) where
  forth_transfers : forth_reason m n R p q ≡ None → (a t : ℕ) → m.moves p a t ≡ true → (u : ℕ) × (n.moves q a u ≡ true) × (R t u ≡ true)
  unfolding forth_reason
  forth_transfers e a t move =
      let (lp, la, lt) = bm.moves_present p a t move in
      answered_says m n R p q a t (given_none _ _ (first_none _ _ (first_none _ _ e a la) t lt)) move

  marks_transfer : mark_reason m n R p q ≡ None → (a : ℕ) → m.marks p a ≡ false → n.marks q a ≡ false
  unfolding mark_reason
  marks_transfer e a shut = ⊎_elim (λ open-on. absurd (clash open-on)) (λ shut'. shut') (cases_Bool (n.marks q a))
    where
      clash : n.marks q a ≡ true → ⊥
      clash open-on =
          let la : a < m.actions = rw same (bn.marks_present q a open-on).1 in
          both_ways _ (given_none _ _ (first_none _ _ e a la)) (and_from _ _ (ap not shut) open-on)

  back_transfers : mark_reason m n R p q ≡ None → back_reason m n R p q ≡ None
      → (a u : ℕ) → m.marks p a ≡ false → n.moves q a u ≡ true → (t : ℕ) × (m.moves p a t ≡ true) × (R t u ≡ true)
  unfolding back_reason
  back_transfers marks e a u shut move =
      let (lq, la, lu) = bn.moves_present q a u move in
      let la' : a < m.actions = rw same la in
      let shut' = marks_transfer marks a shut in
      let none = given_none _ _ (first_none _ _ (first_none _ _ e a la') u lu) in
      answered_says n m (λ x y. R y x) q p a u (rw (shut, shut') at none) move

  pub no_reason_transfers : below (m.label p) (n.label q) ≡ true → reason m n R p q ≡ None
      → Transfers below m n (λ t u. R t u ≡ true) p q
  unfolding reason
  no_reason_transfers fits e =
      let (no-forth, others) = or_else_none (forth_reason m n R p q) _ e in
      let (no_mark, no-back) = or_else_none (mark_reason m n R p q) _ others in
      record { labels = fits; forth = forth_transfers no-forth; closed = marks_transfer no_mark; back = back_transfers no_mark no-back }

-- ---- reasons over relations that agree

some_of_cong : (w : ℕ) (f g : ℕ → Bool) → ((i : ℕ) → i < w → f i ≡ g i) → some_of w f ≡ some_of w g
unfolding some_of
some_of_cong zero f g e = refl
some_of_cong (suc w) f g e = ap₂ ◌||◌ (e w (omega arith)) (some_of_cong w f g (λ i h. e i (omega arith)))

unanswered_cong : {L : Type 0} (mover other : Meaning L) (R S : Relation) (p q a t : ℕ)
    → ((u : ℕ) → u < other.states → R t u ≡ S t u) → unanswered mover other R p q a t ≡ unanswered mover other S p q a t
unfolding unanswered
unanswered_cong mover other R S p q a t e =
    ap (λ b. mover.moves p a t && not b) (some_of_cong other.states _ _ (λ u h. ap (λ b. other.moves q a u && b) (e u h)))

-- relations that agree on the present pairs give the same reason
pub reason_cong : {L : Type 0} (m n : Meaning L) (R S : Relation) (p q : ℕ)
    → ((t u : ℕ) → t < m.states → u < n.states → R t u ≡ S t u) → reason m n R p q ≡ reason m n S p q
unfolding reason forth_reason mark_reason back_reason
reason_cong m n R S p q e =
    ap₂ or_else
    (first_cong m.actions _ _ (λ a la. first_cong m.states _ _ (λ t lt.
    ap (λ b. given b (record { kind = 1; action = a; target = t })) (unanswered_cong m n R S p q a t (λ u lu. e t u lt lu)))))
    (ap (or_else (mark_reason m n R p q))
    (first_cong m.actions _ _ (λ a la. first_cong n.states _ _ (λ u lu.
    ap (λ b. given ((not (m.marks p a) && not (n.marks q a)) && b) (record { kind = 3; action = a; target = u }))
    (unanswered_cong n m (λ x y. R y x) (λ x y. S y x) q p a u (λ t lt. e t u lt lu))))))
