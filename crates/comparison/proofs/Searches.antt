-- What the searches of the code find.
use Rattle.std.proofs.Common.{◌≡◌, ℕ, zero, suc, ◌+◌, ◌^◌, ◌<◌, ◌≤◌, Bool, true, false, not, ◌&&◌, ◌||◌, eqb, ◌⊎◌, List, get_or, Some, None, Decides, Option, sym, refl, ap, ◌∙◌, ap₂, inl, inr, arith}
use mathlib.Core.Path.{fun_ext}
use denote.Param.Members.{Mut}
use lib.Bits.{bit_and, and_lt, bit_or}
use Rattle.std.proofs.lemmas.Bool.{cases_lt, cases_Bool, eqb-true, eq-eqb, and_parts, and_from, true≢false}
use Rattle.std.proofs.lemmas.Bool.Decides.{same_from_decides, Decides-not}
use Rattle.std.proofs.lemmas.Iterator.Adapters.{option_map_id}
use Rattle.std.proofs.iter.Yields.{nat_range_steps}
use Rattle.std.proofs.iter.runs.Sources.{range_runs}
use Rattle.std.specs.Fn.{Called}
use Rattle.std.specs.Iterator.Runs.{SomeRun, CallKeepsClosure, AllItemsGive, IsFirstToGive, ItemsCountUp}
use Rattle.std.specs.Option.{MatchOption, option_map}
use Rattle.std.specs.declared.ops.Range.{Range}
use Rattle.systems.specs.Meaning.{Meaning, Bounded}
use Rattle.systems.specs.Sets.{has, set_of}
use Rattle.systems.proofs.Sets.{has_and, has_ext, has_none, has-set_of, set_of_lt, some_decides, has_or}
use Rattle.preorder.specs.Prebisimulation.{Relation}
use Rattle.preorder.specs.Reason.{first, given, or_else, unanswered, forth_reason, mark_reason, back_reason}
use Rattle.systems.proofs.Questions.{has_marks}
use Rattle.comparison.specs.declared.reasons.Kind.TheVariants.{Forth, Mark, Back}
use Rattle.comparison.specs.declared.reasons.Reason.{Reason}
use Rattle.comparison.specs.Search.{found, lowest, relation_of, turned, unmatched, why}

-- ---- the first that is there

module _ {X : Type 0} (f : ℕ → Option X) where
  pub first_none : (w : ℕ) → ((i : ℕ) → i < w → f i ≡ None) → first w f ≡ None
  unfolding first or_else
  first_none zero none = refl
  first_none (suc w) none = rw (first_none w (λ i h. none i (omega arith))) (none w (omega arith))

  pub first_some : (w a : ℕ) (x : X) → a < w → ((i : ℕ) → i < a → f i ≡ None) → f a ≡ Some x → first w f ≡ Some x
  unfolding first or_else
  first_some zero a x h none here = absurd (omega arith)
  first_some (suc w) a x h none here = go (cases_lt a w) (first_some w a x)
    where
      go : (a < w) ⊎ (w ≤ a) → (a < w → ((i : ℕ) → i < a → f i ≡ None) → f a ≡ Some x → first w f ≡ Some x) → or_else (first w f) (f w) ≡ Some x
      go (inl lt) earlier = rw (earlier lt none here)
      go (inr ge) earlier =
          let last : w ≡ a = omega arith in
          rw (first_none w (λ i l. none i (omega arith)), last) here

pub first_same : {X : Type 0} (f g : ℕ → Option X) (w : ℕ) → ((i : ℕ) → i < w → f i ≡ g i) → first w f ≡ first w g
unfolding first
first_same f g zero e = refl
first_same f g (suc w) e = ap₂ or_else (first_same f g w (λ i h. e i (omega arith))) (e w (omega arith))

-- ---- the lowest number that passes a test

module _ (f : ℕ → Bool) where
  pub lowest_none : (w : ℕ) → ((i : ℕ) → i < w → f i ≡ false) → lowest w f ≡ None
  unfolding lowest given
  lowest_none w fails = first_none _ w (λ i h. rw (fails i h))

  pub lowest_some : (w t : ℕ) → t < w → ((i : ℕ) → i < t → f i ≡ false) → f t ≡ true → lowest w f ≡ Some t
  unfolding lowest given
  lowest_some w t h fails passes = first_some _ w t t h (λ i l. rw (fails i l)) (rw passes)

-- ---- what `find_map` over a range answers

module _ {F : Type 0} (s : Range ℕ) (from : s.start ≡ 0) (f : F) where
  pub find_map_first : {X : Type 0} {g : Mut F (ℕ × Unit {0}) (Option X)} (h : ℕ → Option X) (r : Option X)
      → SomeRun nat_range_steps s (λ p. MatchOption r ((p.whole ≡ true) × AllItemsGive p g f None)
      (λ y. (i : ℕ) × (i < p.len) × (p.len ≡ i + 1) × IsFirstToGive p g f (Some y) None i))
      → ((x : ℕ) (o : Option X) (q : F) → Called g f (x, tt) o q → (q ≡ f) × (o ≡ h x)) → r ≡ first s.end h
  find_map_first {X} {g} h r (p, at, ran) says = is r ran
    where
      counts : ItemsCountUp p p.from.start p.from.end
      counts = range_runs p p.seen

      keeps : CallKeepsClosure g f
      keeps x o q k = (says x.0 o q k).0

      item : (k : ℕ) → k < p.len → p.at k ≡ Some k
      item k l = sym (option_map_id (p.at k)) ∙ counts.3 k l ∙ ap Some (omega (arith, ap (λ (t : Range ℕ). t.start) at, from))

      long : p.whole ≡ true → p.len ≡ s.end
      long whole = omega (arith, counts.1 whole, ap (λ (t : Range ℕ). t.start) at, ap (λ (t : Range ℕ). t.end) at, from)

      short : p.len ≤ s.end
      short = omega (arith, counts.0, ap (λ (t : Range ℕ). t.start) at, ap (λ (t : Range ℕ). t.end) at, from)

      is : (o : Option X) → MatchOption o ((p.whole ≡ true) × AllItemsGive p g f None)
          (λ y. (i : ℕ) × (i < p.len) × (p.len ≡ i + 1) × IsFirstToGive p g f (Some y) None i) → o ≡ first s.end h
      is None (whole, none) =
          sym (first_none h s.end (λ k l. let here : k < p.len = omega (arith, long whole) in
          sym (says k None f (rw (item k here) at (none keeps k))).1))
      is (Some y) (i, l, last, found) =
          sym (first_some h s.end i y (omega (arith, short)) (λ k lt. let here : k < p.len = omega arith in
          sym (says k None f (rw (item k here) at ((found keeps).1 k lt))).1) (sym (says i (Some y) f (rw (item i l) at (found keeps).0)).1))

pub lowest_same : (f g : ℕ → Bool) (w : ℕ) → ((i : ℕ) → i < w → f i ≡ g i) → lowest w f ≡ lowest w g
unfolding lowest given
lowest_same f g w e = first_same _ _ w (λ i h. rw (e i h))

-- ---- what a function makes of them

module _ {X Y : Type 0} (h : X → Y) where
  map_or_else : (x y : Option X) → option_map h (or_else x y) ≡ or_else (option_map h x) (option_map h y)
  unfolding or_else
  map_or_else (Some x) y = refl
  map_or_else None y = refl

  map_first : (f : ℕ → Option X) (w : ℕ) → option_map h (first w f) ≡ first w (λ i. option_map h (f i))
  unfolding first
  map_first f zero = refl
  map_first f (suc w) = map_or_else (first w f) (f w) ∙ ap (λ (x : Option Y). or_else x (option_map h (f w))) (map_first f w)

  map_given : (b : Bool) (x : X) → option_map h (given b x) ≡ given b (h x)
  unfolding given
  map_given true x = refl
  map_given false x = refl

pub map_lowest : {X : Type 0} (h : ℕ → X) (f : ℕ → Bool) (w : ℕ) → option_map h (lowest w f) ≡ first w (λ t. given (f t) (h t))
unfolding lowest
map_lowest h f w = map_first h (λ t. given (f t) t) w ∙ first_same _ _ w (λ t l. map_given h (f t) t)

map_twice : {X Y Z : Type 0} (h : Y → Z) (g : X → Y) (o : Option X) → option_map h (option_map g o) ≡ option_map (λ x. h (g x)) o
map_twice h g (Some x) = refl
map_twice h g None = refl

-- an action by the lowest target that passes
pub map_nested : {X Y : Type 0} (h : X → Y) (g : ℕ → ℕ → X) (f : ℕ → ℕ → Bool) (w v : ℕ)
    → option_map h (first w (λ a. option_map (g a) (lowest v (f a)))) ≡ first w (λ a. first v (λ t. given (f a t) (h (g a t))))
map_nested h g f w v =
    map_first h _ w ∙ first_same _ _ w (λ a l. map_twice h (g a) (lowest v (f a)) ∙ map_lowest (λ t. h (g a t)) (f a) v)

-- ---- reasons as the code finds them

module _ {L : Type 0} (m n : Meaning L) (R : Relation) (p q : ℕ) where
  pub forth_found : (r : Option Reason) (w : ℕ) → w ≡ m.actions
      → r ≡ first w (λ a. option_map (λ t. record { kind = Forth; action = a; target = t }) (lowest m.states (unanswered m n R p q a)))
      → found r ≡ forth_reason m n R p q
  unfolding forth_reason
  forth_found r w all e = ap found (rw all at e) ∙ map_nested why (λ a t. record { kind = Forth; action = a; target = t }) (unanswered m n R p q) m.actions m.states

  pub mark_found : (r : Option Reason) (w : ℕ) → w ≡ m.actions
      → r ≡ first w (λ a. option_map (λ t. record { kind = Mark; action = a; target = t }) (given (not (m.marks p a) && n.marks q a) 0))
      → found r ≡ mark_reason m n R p q
  unfolding mark_reason
  mark_found r w all e = ap found (rw all at e) ∙ map_first why _ m.actions ∙ first_same _ _ m.actions (λ a l. map_twice why _ _ ∙ map_given _ _ 0)

  pub back_found : (r : Option Reason) (w : ℕ) → w ≡ m.actions
      → r ≡ first w (λ a. option_map (λ t. record { kind = Back; action = a; target = t }) (lowest n.states (unmatched m n R p q a)))
      → found r ≡ back_reason m n R p q
  unfolding back_reason unmatched turned
  back_found r w all e = ap found (rw all at e) ∙ map_nested why (λ a t. record { kind = Back; action = a; target = t }) (unmatched m n R p q) m.actions n.states

  -- a state open on an action has nothing to match on it
  pub open_unmatched : (a : ℕ) → (m.marks p a || n.marks q a) ≡ true → None ≡ lowest n.states (unmatched m n R p q a)
  unfolding unmatched
  open_unmatched a e = sym (lowest_none _ n.states (λ u h. go (m.marks p a) (n.marks q a) (unanswered n m (turned R) q p a u) e))
    where
      go : (x y z : Bool) → (x || y) ≡ true → ((not x && not y) && z) ≡ false
      go true y z e = refl
      go false true z e = refl
      go false false z e = absurd (true≢false (sym e))

  pub closed_unmatched : (S : Relation) → S ≡ turned R → (a : ℕ) → m.marks p a ≡ false → n.marks q a ≡ false → unanswered n m S q p a ≡ unmatched m n R p q a
  unfolding unmatched
  closed_unmatched S same a shut shut' = fun_ext (λ u. rw (same, shut, shut'))

-- ---- the test of a move, by masks

-- the states that x holds and the states that y holds do not meet
module _ (x : ℕ) (small : x < 2 ^ 64) (w : ℕ) (narrow : w ≤ 64) (f : ℕ → Bool) (bounded : (u : ℕ) → f u ≡ true → u < w) where
  meet_decides : Decides (eqb (bit_and x (set_of 64 f)) 0) ((u : ℕ) × (u < w) × ((f u && has x u) ≡ true) → ⊥)
  meet_decides = (apart, λ none. eq-eqb _ _ (has_ext 64 _ 0 (and_lt 64 x _ small (set_of_lt 64 f)) (omega arith) (λ u h. has_and x _ u ∙ empty none u h ∙ sym (has_none u))))
    where
      apart : eqb (bit_and x (set_of 64 f)) 0 ≡ true → (u : ℕ) × (u < w) × ((f u && has x u) ≡ true) → ⊥
      apart e (u, lt, both) =
          let parts = and_parts (f u) (has x u) both in
          true≢false (sym (and_from _ _ parts.1 (has-set_of 64 f u (omega arith) ∙ parts.0)) ∙ sym (has_and x _ u) ∙ ap (λ (z : ℕ). has z u) (eqb-true _ _ e) ∙ has_none u)

      empty : ((u : ℕ) × (u < w) × ((f u && has x u) ≡ true) → ⊥) → (u : ℕ) → u < 64 → (has x u && has (set_of 64 f) u) ≡ false
      empty none u h = go (cases_Bool (has x u && has (set_of 64 f) u))
        where
          go : ((has x u && has (set_of 64 f) u) ≡ true) ⊎ ((has x u && has (set_of 64 f) u) ≡ false) → (has x u && has (set_of 64 f) u) ≡ false
          go (inr e) = e
          go (inl e) =
              let parts = and_parts (has x u) _ e in
              let passes = sym (has-set_of 64 f u h) ∙ parts.1 in
              absurd (none (u, bounded u passes, and_from _ _ passes parts.0))

-- what the sets of open actions say of one action
module _ {L : Type 0} (m n : Meaning L) (bm : Bounded m) (bn : Bounded n) (p q a : ℕ) where
  pub opens_is : {x y : ℕ} → x ≡ set_of 32 (m.marks p) → y ≡ set_of 32 (n.marks q)
      → (not (has x a) && has y a) ≡ (not (m.marks p a) && n.marks q a)
  opens_is e d =
      ap₂ (λ (u v : Bool). not u && v) (ap (λ (z : ℕ). has z a) e ∙ has_marks m bm p a) (ap (λ (z : ℕ). has z a) d ∙ has_marks n bn q a)

  pub either_open : {x : ℕ} → x ≡ bit_or (set_of 32 (m.marks p)) (set_of 32 (n.marks q)) → has x a ≡ (m.marks p a || n.marks q a)
  either_open e = ap (λ (z : ℕ). has z a) e ∙ has_or _ _ a ∙ ap₂ ◌||◌ (has_marks m bm p a) (has_marks n bn q a)

pub lost_is : {L : Type 0} (mover other : Meaning L) → Bounded other → (masks : List ℕ) (p q a t : ℕ) → t < 64 → get_or masks t 0 < 2 ^ 64
    → (has (set_of 64 (mover.moves p a)) t && eqb (bit_and (get_or masks t 0) (set_of 64 (other.moves q a))) 0) ≡ unanswered mover other (relation_of masks) p q a t
unfolding unanswered relation_of
lost_is mover other bounds masks p q a t lt small =
    ap₂ ◌&&◌ (has-set_of 64 (mover.moves p a) t lt)
    (same_from_decides _ _
    (meet_decides (get_or masks t 0) small other.states bounds.few_states (other.moves q a) (λ u e. (bounds.moves_present q a u e).2))
    (Decides-not _ (some_decides other.states _)))
