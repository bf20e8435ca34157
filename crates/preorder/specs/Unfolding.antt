-- The formula that a struck pair unfolds to by its reason.
use Rattle.std.specs.Prelude.{◌≡◌, ℕ, zero, suc, Bool, cond, List, [], ◌∷◌, ◌++◌}
use Rattle.systems.specs.Meaning.{Meaning}
use Rattle.formulas.specs.Formula.{Formula, top, bottom, labelled, both, either, diamond, box}
use Rattle.preorder.specs.Strikes.{Cells, Struck}

-- the numbers below w that pass the test f, in ascending order
unfoldable pub members : ℕ → (ℕ → Bool) → List ℕ
members zero f = []
members (suc w) f = members w f ++ cond (f w) (w ∷ []) []

-- formulas joined, grouped to the left; with none, the formula given for that
unfoldable pub joined_to : {L : Type 0} → (Formula L → Formula L → Formula L) → Formula L → List (Formula L) → Formula L
joined_to op f [] = f
joined_to op f (g ∷ gs) = joined_to op (op f g) gs

unfoldable pub joined : {L : Type 0} → (Formula L → Formula L → Formula L) → Formula L → List (Formula L) → Formula L
joined op none [] = none
joined op none (f ∷ fs) = joined_to op f fs

module _ {L : Type 0} (m n : Meaning L) (k : ℕ) (c : Cells) where
  mutual
    -- the pair (p, q), struck within k rounds, unfolds to a formula
    pub data Unfolds : ℕ → ℕ → Formula L → Type 0 where
      -- kind 0: the label of p
      by_label : {p q : ℕ} → Struck k c p q → (c p q).kind ≡ 0 → Unfolds p q (labelled (m.label p))
      -- kind 1: <a> over the "and" of what the target and each state that q reaches by a unfold to; <a>tt with none
      by_forth : {p q : ℕ} (fs : List (Formula L)) → Struck k c p q → (c p q).kind ≡ 1
          → UnfoldsAcross (c p q).target (members n.states (n.moves q (c p q).action)) fs
          → Unfolds p q (diamond (c p q).action (joined both top fs))
      -- kind 2: [a]tt
      by_mark : {p q : ℕ} → Struck k c p q → (c p q).kind ≡ 2 → Unfolds p q (box (c p q).action top)
      -- kind 3: [a] over the "or" of what each state that p reaches by a and the target unfold to; [a]ff with none
      by_back : {p q : ℕ} (fs : List (Formula L)) → Struck k c p q → (c p q).kind ≡ 3
          → UnfoldsAlong (members m.states (m.moves p (c p q).action)) (c p q).target fs
          → Unfolds p q (box (c p q).action (joined either bottom fs))

    -- one first state with each of a list of second states
    pub data UnfoldsAcross : ℕ → List ℕ → List (Formula L) → Type 0 where
      across_none : {t : ℕ} → UnfoldsAcross t [] []
      across_more : {t u : ℕ} {us : List ℕ} {f : Formula L} {fs : List (Formula L)} → Unfolds t u f → UnfoldsAcross t us fs → UnfoldsAcross t (u ∷ us) (f ∷ fs)

    -- each of a list of first states with one second state
    pub data UnfoldsAlong : List ℕ → ℕ → List (Formula L) → Type 0 where
      along_none : {u : ℕ} → UnfoldsAlong [] u []
      along_more : {u t : ℕ} {ts : List ℕ} {f : Formula L} {fs : List (Formula L)} → Unfolds t u f → UnfoldsAlong ts u fs → UnfoldsAlong (t ∷ ts) u (f ∷ fs)
