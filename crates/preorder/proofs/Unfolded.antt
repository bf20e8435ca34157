-- Every struck pair unfolds to a formula that tells its states apart and is exactly as deep as the pair's round.
use Rattle.std.proofs.Common.{◌≡◌, ℕ, zero, suc, ◌<◌, ◌≤◌, Bool, true, false, ◌⊎◌, List, [], ◌∷◌, map, sym, refl, ap, ◌∙◌, inl, inr, ⊎_elim, arith}
use mathlib.Core.Logic.{⊎_map}
use Rattle.std.specs.List.{All}
use Rattle.std.proofs.lemmas.List.Elements.{All-head, All-tail, All-weaker}
use Rattle.std.proofs.lemmas.Bool.{false≢true, cases_lt}
use Rattle.systems.specs.Label.{Preorder}
use Rattle.systems.specs.Meaning.{Meaning, Bounded}
use Rattle.formulas.specs.Formula.{Formula, top, bottom, labelled, both, either, box, Satisfies, depth}
use Rattle.preorder.specs.Prebisimulation.{Transfers, Approximant}
use Rattle.preorder.specs.Reason.{Reason, unanswered}
use Rattle.preorder.specs.Strikes.{Cell, Cells, Struck, struck_at, related}
use Rattle.preorder.specs.Unfolding.{Unfolds, by_label, by_forth, by_mark, by_back, UnfoldsAcross, across_none, across_more, UnfoldsAlong, along_none, along_more}
use Rattle.preorder.proofs.Invariant.{Justified, forth_justified, mark_justified, back_justified, Stands, is_unstruck, label_struck, round_struck, Sound}
use Rattle.preorder.proofs.Approximants.{transfers_mono_present}
use Rattle.preorder.proofs.Reasons.{unanswered_says, reason_justified}
use Rattle.preorder.proofs.Rounds.{related_says, related_from, related_is}
use Rattle.preorder.proofs.Joined.{members_pass, joined_each, joined_one, gathered}

module _ {L : Type 0} (m n : Meaning L) (k : ℕ) (c : Cells) (φ : ℕ → Formula L) where
  abbrev across : ℕ → ℕ → Type 0
  across t u = Unfolds m n k c t u (φ u)

  abbrev along : ℕ → ℕ → Type 0
  along u t = Unfolds m n k c t u (φ t)

  unfolds_across : (t : ℕ) (us : List ℕ) → All (across t) us → UnfoldsAcross m n k c t us (map φ us)
  unfolds_across t [] h = across_none
  unfolds_across t (u ∷ us) h = across_more (All-head (across t) u us h) (unfolds_across t us (All-tail (across t) u us h))

  unfolds_along : (u : ℕ) (ts : List ℕ) → All (along u) ts → UnfoldsAlong m n k c ts u (map φ ts)
  unfolds_along u [] h = along_none
  unfolds_along u (t ∷ ts) h = along_more (All-head (along u) t ts h) (unfolds_along u ts (All-tail (along u) t ts h))

-- the pair unfolds to f, which is as deep as the pair's round, true of the first state and false of the second
record Separates {L : Type 0} (below : L → L → Bool) (m n : Meaning L) (k : ℕ) (c : Cells) (p q : ℕ) (f : Formula L) : Type 0 where
  unfolds : Unfolds m n k c p q f
  deep : depth f ≡ (c p q).round
  holds : Satisfies below m p f
  fails : Satisfies below n q f → ⊥

abbrev Separated : {L : Type 0} → (L → L → Bool) → Meaning L → Meaning L → ℕ → Cells → ℕ → ℕ → Type 0
Separated {L} below m n k c p q = (f : Formula L) × Separates below m n k c p q f

module _ {L : Type 0} (below : L → L → Bool) (m n : Meaning L) (bm : Bounded m) (bn : Bounded n)
    (k : ℕ) (small : k < 65535) (c : Cells) (s : Sound below m n k c) where
  -- a pair that round j + 1 strikes, where the pairs of earlier rounds are separated
  module _ (p q j : ℕ) (within : suc j ≤ k) (struck : (c p q).round ≡ suc j) (was : Approximant below m n j p q)
      (earlier : (t u : ℕ) → t < m.states → u < n.states → (c t u).round ≤ j → Separated below m n k c t u) where
    -- past the first round, the moves are answered by pairs that no round before j has struck
    answered : (j ≡ 0) ⊎ Transfers below m n (λ t u. j ≤ (c t u).round) p q
    answered = go j refl was
      where
        late : (i : ℕ) → j ≡ suc i → (t u : ℕ) → t < m.states → u < n.states → Approximant below m n i t u → j ≤ (c t u).round
        late i e t u ht hu h =
            rw e (related_says below m n (suc i) c t u ((related_is below m n bm bn k small c s i (omega arith) t u ht hu).1 h)).2

        go : (i : ℕ) → j ≡ i → Approximant below m n i p q → (j ≡ 0) ⊎ Transfers below m n (λ t u. j ≤ (c t u).round) p q
        go zero e h = inl e
        go (suc i) e h = inr (transfers_mono_present below m n bm bn (late i e) h)

    separated_by_mark : (c p q).kind ≡ 2 → m.marks p (c p q).action ≡ false → n.marks q (c p q).action ≡ true → Separated below m n k c p q
    separated_by_mark kind closed open' = (
      box (c p q).action top,
      record {
        unfolds = by_mark (omega arith) kind;
        deep = sym (struck ∙ ap suc (⊎_elim (λ e. e) (λ h. absurd (false≢true (sym (h.closed _ closed) ∙ open'))) answered));
        holds = (closed, λ t e. tt);
        fails = λ x. false≢true (sym x.0 ∙ open');
      },
    )

    -- a pair that round j + 1 does not call related was struck before
    struck_before : (t u : ℕ) → t < m.states → u < n.states → (related below m n (suc j) c t u ≡ true → ⊥) → (c t u).round ≤ j
    struck_before t u ht hu unrelated = elim (cases_lt j (c t u).round) [
      | inl lt ↦ absurd (unrelated (related_from below m n (suc j) c t u ht hu lt))
      | inr le ↦ le
    ]

    separated_by_forth : (c p q).kind ≡ 1 → (c p q).target < m.states
        → unanswered m n (related below m n (suc j) c) p q (c p q).action (c p q).target ≡ true → Separated below m n k c p q
    separated_by_forth kind ht un =
        let a = (c p q).action in
        let t = (c p q).target in
        let here = λ (u : ℕ) (x : n.moves q a u ≡ true). (bn.moves_present q a u x).2 in
        let says = unanswered_says m n (related below m n (suc j) c) p q a t un in
        let before = λ (u : ℕ) (x : n.moves q a u ≡ true). struck_before t u ht (here u x) (says.1 u (here u x) x) in
        let parts = gathered both top (λ f g. refl) refl n.states (n.moves q a) here
        (Separates below m n k c t) (λ u. (c t u).round) (λ u f h. h.deep) j before
        (⊎_map (λ e. e) (λ h. h.forth a t says.0) answered) (λ u x. earlier t u ht (here u x) (before u x)) in (
          _,
          record {
            unfolds = by_forth _ (omega arith) kind
                (unfolds_across m n k c parts.0 t _ (All-weaker _ (across m n k c parts.0 t) (λ u x. (parts.1 u x).unfolds) _ (members_pass n.states (n.moves q a))));
            deep = ap suc parts.2 ∙ sym struck;
            holds = (t, says.0, joined_each both top _ _ parts.0 (Satisfies below m t) (λ f g h. h) tt (λ u x. (parts.1 u x).holds));
            fails = λ x. joined_one both top _ _ parts.0 (λ f. Satisfies below n x.0 f → ⊥)
                (λ f g h y. ⊎_elim (λ no-f. no-f y.0) (λ no-g. no-g y.1) h)
                x.0 (here x.0 x.1) x.1 (parts.1 x.0 x.1).fails x.2;
          },
        )

    separated_by_back : (c p q).kind ≡ 3 → (c p q).target < n.states → m.marks p (c p q).action ≡ false
        → unanswered n m (λ x y. related below m n (suc j) c y x) q p (c p q).action (c p q).target ≡ true → Separated below m n k c p q
    separated_by_back kind hu closed un =
        let a = (c p q).action in
        let u = (c p q).target in
        let here = λ (t : ℕ) (x : m.moves p a t ≡ true). (bm.moves_present p a t x).2 in
        let says = unanswered_says n m (λ x y. related below m n (suc j) c y x) q p a u un in
        let before = λ (t : ℕ) (x : m.moves p a t ≡ true). struck_before t u (here t x) hu (says.1 t (here t x) x) in
        let parts = gathered either bottom (λ f g. refl) refl m.states (m.moves p a) here
        (λ t. Separates below m n k c t u) (λ t. (c t u).round) (λ t f h. h.deep) j before
        (⊎_map (λ e. e) (λ h. h.back a u closed says.0) answered) (λ t x. earlier t u (here t x) hu (before t x)) in (
          _,
          record {
            unfolds = by_back _ (omega arith) kind
                (unfolds_along m n k c parts.0 u _ (All-weaker _ (along m n k c parts.0 u) (λ t x. (parts.1 t x).unfolds) _ (members_pass m.states (m.moves p a))));
            deep = ap suc parts.2 ∙ sym struck;
            holds = (
              closed,
              λ t x. joined_one either bottom _ _ parts.0 (Satisfies below m t) (λ f g h. h)
                  t (here t x) x (parts.1 t x).holds,
            );
            fails = λ x. joined_each either bottom _ _ parts.0 (λ f. Satisfies below n u f → ⊥)
                (λ f g h. ⊎_elim h.0 h.1) (λ y. y) (λ t y. (parts.1 t y).fails) (x.1 u says.0);
          },
        )

    separated_by_reason : (r : Reason) → c p q ≡ struck_at (suc j) r → Justified m n (related below m n (suc j) c) p q r → Separated below m n k c p q
    separated_by_reason r e (forth_justified a t ha ht un) = separated_by_forth (rw e) (rw e ht) (rw e un)
    separated_by_reason r e (mark_justified a ha closed open') = separated_by_mark (rw e) (rw e closed) (rw e open')
    separated_by_reason r e (back_justified a u ha hu closed closed' un) = separated_by_back (rw e) (rw e hu) (rw e closed) (rw e un)

module _ {L : Type 0} (below : L → L → Bool) (m n : Meaning L) (order : Preorder below) (bm : Bounded m) (bn : Bounded n)
    (k : ℕ) (small : k < 65535) (c : Cells) (s : Sound below m n k c) where
  -- one step: the pairs of the rounds before are separated
  separated_step : (p q : ℕ) → Struck k c p q
      → ((t u : ℕ) → t < m.states → u < n.states → (c t u).round < (c p q).round → Separated below m n k c t u)
      → Stands below m n k c p q → Separated below m n k c p q
  separated_step p q h earlier (is_unstruck e x) = absurd (omega (arith, ap (λ (x : Cell). x.round) e))
  separated_step p q h earlier (label_struck e x) = (
    labelled (m.label p),
    record {
      unfolds = by_label h (ap (λ (x : Cell). x.kind) e);
      deep = sym (ap (λ (x : Cell). x.round) e);
      holds = order.reflexive (m.label p);
      fails = λ y. false≢true (sym x ∙ y);
    },
  )
  separated_step p q h earlier (round_struck j r le e x why) =
      let at = ap (λ (x : Cell). x.round) e in
      separated_by_reason below m n bm bn k small c s p q j le at x
      (λ t u ht hu b. earlier t u ht hu (omega arith)) r e (reason_justified m n _ p q r why)

  separated_below : (b p q : ℕ) → p < m.states → q < n.states → Struck k c p q → (c p q).round < b → Separated below m n k c p q
  separated_below zero p q hp hq h lt = absurd (omega arith)
  separated_below (suc b) p q hp hq h lt =
      separated_step p q h (λ t u ht hu l. separated_below b t u ht hu (omega arith) (omega arith)) (s p q hp hq)

  pub struck_unfolds : (p q : ℕ) → p < m.states → q < n.states → Struck k c p q
      → (f : Formula L) × Unfolds m n k c p q f × (depth f ≡ (c p q).round) × Satisfies below m p f × (Satisfies below n q f → ⊥)
  struck_unfolds p q hp hq h =
      let x = separated_below (suc (c p q).round) p q hp hq h (omega arith) in
      (x.0, x.1.unfolds, x.1.deep, x.1.holds, x.1.fails)
