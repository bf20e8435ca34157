-- Members of a test, formulas chosen for them, and what a joined formula keeps of its parts.
use Rattle.std.proofs.Common.{◌≡◌, ℕ, zero, suc, ◌<◌, ◌≤◌, max, Bool, true, false, cond, ◌⊎◌, List, [], ◌∷◌, ◌++◌, map, sym, refl, ap, ◌∙◌, subst, inl, inr, ⊎_elim, arith}
use mathlib.Core.List.Memᴰ
use mathlib.Core.List.{Memᴰ}
use Rattle.std.specs.List.{All}
use Rattle.std.proofs.lemmas.List.Elements.{All-nil, All-cons, All-head, All-tail, All-append, All-map, All-weaker}
use Rattle.std.proofs.lemmas.Bool.{false≢true, cases_lt}
use Rattle.formulas.specs.Formula.{Formula, depth}
use Rattle.preorder.specs.Unfolding.{members, joined, joined_to}

-- ---- members

pub members_pass : (w : ℕ) (f : ℕ → Bool) → All (λ u. f u ≡ true) (members w f)
unfolding members
members_pass zero f = All-nil (λ u. f u ≡ true)
members_pass (suc w) f = All-append (λ u. f u ≡ true) (members w f) _ (members_pass w f) (last (f w) refl)
  where
    last : (b : Bool) → f w ≡ b → All (λ u. f u ≡ true) (cond b (w ∷ []) [])
    last true e = All-cons (λ u. f u ≡ true) w [] e (All-nil (λ u. f u ≡ true))
    last false e = All-nil (λ u. f u ≡ true)

members_hold : (w : ℕ) (f : ℕ → Bool) (u : ℕ) → u < w → f u ≡ true → Memᴰ u (members w f)
unfolding members
members_hold zero f u h e = absurd (omega arith)
members_hold (suc w) f u h e = place (cases_lt u w) (λ lt. members_hold w f u lt e)
  where
    last : (b : Bool) → f w ≡ b → u ≡ w → Memᴰ u (cond b (w ∷ []) [])
    last true d same = Memᴰ.head same
    last false d same = absurd (false≢true (sym d ∙ sym (ap f same) ∙ e))

    place : (u < w) ⊎ (w ≤ u) → (u < w → Memᴰ u (members w f)) → Memᴰ u (members w f ++ cond (f w) (w ∷ []) [])
    place (inl lt) before = Memᴰ.append_left _ (before lt)
    place (inr le) before = Memᴰ.append_right (members w f) (last (f w) refl (omega arith))

-- ---- one choice for each number that passes a test

chosen : {X : Type 0} (default : X) (f : ℕ → Bool) (R : ℕ → X → Type 0) → ((u : ℕ) → f u ≡ true → (x : X) × R u x)
    → (g : ℕ → X) × ((u : ℕ) → f u ≡ true → R u (g u))
chosen {X} default f R each = (λ u. (pick u (f u) (each u)).0, λ u. (pick u (f u) (each u)).1)
  where
    pick : (u : ℕ) (b : Bool) → (b ≡ true → (x : X) × R u x) → (x : X) × (b ≡ true → R u x)
    pick u true h = ((h refl).0, λ e. (h refl).1)
    pick u false h = (default, λ e. absurd (false≢true e))

-- ---- a joined formula

module _ {L : Type 0} (op : Formula L → Formula L → Formula L) (none : Formula L) where
  -- what every part has, if joining keeps it
  joined-all : (P : Formula L → Type 0) → ((f g : Formula L) → P f × P g → P (op f g)) → P none
      → (fs : List (Formula L)) → All P fs → P (joined op none fs)
  unfolding joined joined_to
  joined-all P keeps empty [] h = empty
  joined-all P keeps empty (f ∷ fs) h = go f fs (All-head P f fs h) (All-tail P f fs h)
    where
      go : (f : Formula L) (fs : List (Formula L)) → P f → All P fs → P (joined_to op f fs)
      go f [] x h = x
      go f (g ∷ gs) x h = go (op f g) gs (keeps f g (x, All-head P g gs h)) (All-tail P g gs h)

  -- what some part has, if joining keeps it from either side
  joined_some : (P : Formula L → Type 0) → ((f g : Formula L) → P f ⊎ P g → P (op f g))
      → (fs : List (Formula L)) (f : Formula L) → Memᴰ f fs → P f → P (joined op none fs)
  unfolding joined joined_to
  joined_some P keeps [] f i x = elim i [ ]
  joined_some P keeps (g ∷ gs) f i x = ⊎_elim (λ (e : f ≡ g). first g gs (subst P e x)) (later g gs) (Memᴰ.cases_cons i)
    where
      first : (g : Formula L) (gs : List (Formula L)) → P g → P (joined_to op g gs)
      first g [] y = y
      first g (h ∷ hs) y = first (op g h) hs (keeps g h (inl y))

      later : (g : Formula L) (gs : List (Formula L)) → Memᴰ f gs → P (joined_to op g gs)
      later g gs (Memᴰ.head {x = h} {xs = hs} e) = first (op g h) hs (keeps g h (inr (subst P e x)))
      later g gs (Memᴰ.tail {x = h} {xs = hs} j) = later (op g h) hs j

  -- the same of the formulas chosen for the members of a test
  module _ (w : ℕ) (test : ℕ → Bool) (φ : ℕ → Formula L) where
    pub joined_each : (P : Formula L → Type 0) → ((f g : Formula L) → P f × P g → P (op f g)) → P none
        → ((u : ℕ) → test u ≡ true → P (φ u)) → P (joined op none (map φ (members w test)))
    joined_each P keeps empty each =
        joined-all P keeps empty _ (All-map P φ (members w test) (All-weaker (λ u. test u ≡ true) (λ u. P (φ u)) each (members w test) (members_pass w test)))

    pub joined_one : (P : Formula L → Type 0) → ((f g : Formula L) → P f ⊎ P g → P (op f g))
        → (u : ℕ) → u < w → test u ≡ true → P (φ u) → P (joined op none (map φ (members w test)))
    joined_one P keeps u h e x = joined_some P keeps _ (φ u) (mapped (members w test) (members_hold w test u h e)) x
      where
        mapped : (us : List ℕ) → Memᴰ u us → Memᴰ (φ u) (map φ us)
        mapped us (Memᴰ.head d) = Memᴰ.head (ap φ d)
        mapped us (Memᴰ.tail {xs = vs} i) = Memᴰ.tail (mapped vs i)

  -- A formula for each member of a test, with R and of a known depth, gives a choice of them that is j deep when joined:
  -- none is deeper, and one is that deep or j is 0.
  pub gathered : ((f g : Formula L) → depth (op f g) ≡ max (depth f) (depth g)) → depth none ≡ 0
      → (w : ℕ) (test : ℕ → Bool) → ((u : ℕ) → test u ≡ true → u < w)
      → (R : ℕ → Formula L → Type 0) (height : ℕ → ℕ) → ((u : ℕ) (f : Formula L) → R u f → depth f ≡ height u)
      → (j : ℕ) → ((u : ℕ) → test u ≡ true → height u ≤ j) → (j ≡ 0) ⊎ ((u : ℕ) × (test u ≡ true) × (j ≤ height u))
      → ((u : ℕ) → test u ≡ true → (f : Formula L) × R u f)
      → (φ : ℕ → Formula L) × ((u : ℕ) → test u ≡ true → R u (φ u)) × (depth (joined op none (map φ (members w test))) ≡ j)
  gathered deep flat w test present R height is j most some each =
      let pick = chosen none test R each in
      let whole = joined op none (map pick.0 (members w test)) in
      let exact = λ (u : ℕ) (x : test u ≡ true). is u (pick.0 u) (pick.1 u x) in
      let high : depth whole ≤ j = joined_each w test pick.0 (λ f. depth f ≤ j) (λ f g h. rw (deep f g) (omega arith))
      (rw flat (omega arith)) (λ u x. rw (exact u x) (most u x)) in
      let low : j ≤ depth whole = elim some [
        | inl e ↦ omega arith
        | inr y ↦ joined_one w test pick.0 (λ f. j ≤ depth f) (λ f g h. rw (deep f g) (omega arith))
            y.0 (present y.0 y.1) y.1 (rw (exact y.0 y.1) y.2)
      ] in
      (pick.0, pick.1, omega arith)
