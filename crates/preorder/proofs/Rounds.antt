-- What the rounds make of the cells: after k rounds the unstruck pairs are the k-th approximant.
use Rattle.std.proofs.Common.{◌≡◌, ℕ, zero, suc, ◌<◌, ◌≤◌, Bool, true, false, ◌&&◌, ltb, ◌↔◌, is_some, Some, None, Decides, Option, sym, refl, ap, ◌∙◌, ⊎_elim, arith}
use Rattle.std.proofs.lemmas.Bool.{ltb-true, lt-ltb, leb-true, le-leb, cases_lt, cases_Bool, both_ways, and_parts, and_from}
use Rattle.systems.specs.Meaning.{Meaning, Bounded}
use Rattle.preorder.specs.Prebisimulation.{Relation, Transfers, Prebisimulation, Approximant}
use Rattle.preorder.specs.Reason.{Reason, reason}
use Rattle.preorder.specs.Strikes.{Cells, struck_at, Unstruck, opened, related, strikes, rounded, cells_after, newly_struck}
use Rattle.preorder.proofs.Invariant.{Stands, is_unstruck, label_struck, round_struck, Sound}
use Rattle.preorder.proofs.Reasons.{reason_justified, justified_refutes, no_reason_transfers, reason_cong}
use Rattle.preorder.proofs.Approximants.{transfers_mono_present, approximant_antitone, prebisimulation_approximant}
use Rattle.preorder.proofs.Counting.{count_pairs_none}

-- ---- one round

module _ {L : Type 0} (below : L → L → Bool) (m n : Meaning L) where
  pub related_says : (k : ℕ) (c : Cells) (p q : ℕ) → related below m n k c p q ≡ true
      → (p < m.states) × (q < n.states) × (k ≤ (c p q).round)
  unfolding related
  related_says k c p q e =
      let parts = and_parts (ltb p m.states && ltb q n.states) _ e in
      let present = and_parts (ltb p m.states) _ parts.0 in
      (ltb-true _ _ present.0, ltb-true _ _ present.1, leb-true _ _ parts.1)

  pub related_from : (k : ℕ) (c : Cells) (p q : ℕ) → p < m.states → q < n.states → k ≤ (c p q).round → related below m n k c p q ≡ true
  unfolding related
  related_from k c p q hp hq le = and_from _ _ (and_from _ _ (lt-ltb _ _ hp) (lt-ltb _ _ hq)) (le-leb _ _ le)

  -- what round k does to a pair: it keeps the cell, for want of a reason if the pair is related, or strikes it
  pub data Rounding (k : ℕ) (c : Cells) (p q : ℕ) : Type 0 where
    keeps : strikes below m n k c p q ≡ None → rounded below m n k c p q ≡ c p q
        → (related below m n k c p q ≡ true → reason m n (related below m n k c) p q ≡ None) → Rounding k c p q
    strikes_by : (r : Reason) → strikes below m n k c p q ≡ Some r → rounded below m n k c p q ≡ struck_at k r
        → related below m n k c p q ≡ true → reason m n (related below m n k c) p q ≡ Some r → Rounding k c p q

  pub rounding : (k : ℕ) (c : Cells) (p q : ℕ) → Rounding k c p q
  unfolding strikes rounded
  rounding k c p q = go (related below m n k c p q) refl (reason m n (related below m n k c) p q) refl
    where
      go : (b : Bool) → related below m n k c p q ≡ b → (o : Option Reason) → reason m n (related below m n k c) p q ≡ o → Rounding k c p q
      go false e o why = keeps (rw e) (rw e) (λ is. absurd (both_ways _ e is))
      go true e None why = keeps (rw (e, why)) (rw (e, why)) (λ is. why)
      go true e (Some r) why = strikes_by r (rw (e, why)) (rw (e, why)) e why

  -- a round leaves what earlier rounds called related
  related_kept : (j k : ℕ) → j ≤ k → (c : Cells) (p q : ℕ)
      → related below m n j (rounded below m n k c) p q ≡ related below m n j c p q
  unfolding related
  related_kept j k h c p q = elim (rounding k c p q) [
    | keeps none e why ↦ rw e
    | strikes_by r some e is why ↦
        let (hp, hq, le) = related_says k c p q is in
        related_from j (rounded below m n k c) p q hp hq (rw e (omega arith)) ∙ sym (related_from j c p q hp hq (omega arith))
  ]

  still_keeps : (k : ℕ) (c : Cells) → newly_struck below m n k c ≡ 0 → (p q : ℕ) → p < m.states → q < n.states
      → (rounded below m n k c p q ≡ c p q) × (related below m n k c p q ≡ true → reason m n (related below m n k c) p q ≡ None)
  unfolding newly_struck
  still_keeps k c still p q hp hq = elim (rounding k c p q) [
    | keeps none e why ↦ (e, why)
    | strikes_by r some e is why ↦ absurd (both_ways _ (count_pairs_none _ _ _ still p q hp hq) (ap is_some some))
  ]

  -- a round that strikes none leaves every cell
  pub still_cells : (k : ℕ) → newly_struck below m n (suc k) (cells_after below m n k) ≡ 0
      → (p q : ℕ) → p < m.states → q < n.states → cells_after below m n (suc k) p q ≡ cells_after below m n k p q
  unfolding cells_after
  still_cells k still p q hp hq = (still_keeps (suc k) (cells_after below m n k) still p q hp hq).0

-- ---- the approximants

module _ {L : Type 0} (below : L → L → Bool) (m n : Meaning L) (bm : Bounded m) (bn : Bounded n)
    (k : ℕ) (few : k < 65535) (c : Cells) (sound : Sound below m n k c) where
  related_approximant : (j : ℕ) → j ≤ k → (p q : ℕ) → related below m n (suc j) c p q ≡ true → Approximant below m n j p q
  related_approximant j h p q is =
      let (hp, hq, le) = related_says below m n (suc j) c p q is in go le (sound p q hp hq)
    where
      go : suc j ≤ (c p q).round → Stands below m n k c p q → Approximant below m n j p q
      go le (is_unstruck e A) = approximant_antitone below m n j k h p q A
      go le (label_struck e fails) = let r = ap (λ x. x.round) e in absurd (omega arith)
      go le (round_struck i r lt e A why) = let r = ap (λ x. x.round) e in approximant_antitone below m n j i (omega arith) p q A

  -- by recursion on a bound b of j
  approximant_related : (b j : ℕ) → j < b → j ≤ k → (p q : ℕ) → p < m.states → q < n.states
      → Approximant below m n j p q → related below m n (suc j) c p q ≡ true
  approximant_related zero j lt h p q hp hq A = absurd (omega arith)
  approximant_related (suc b) j lt h p q hp hq A =
      related_from below m n (suc j) c p q hp hq (go (sound p q hp hq) (λ i lt'. approximant_related b i (omega arith) (omega arith)))
    where
      go : Stands below m n k c p q
          → ((i : ℕ) → i < j → (t u : ℕ) → t < m.states → u < n.states → Approximant below m n i t u → related below m n (suc i) c t u ≡ true)
          → suc j ≤ (c p q).round
      go (is_unstruck e B) ih = let r = ap (λ x. x.round) e in omega arith
      go (label_struck e fails) ih = absurd (both_ways _ fails (approximant_antitone below m n 0 j (omega arith) p q A))
      go (round_struck i r le e B why) ih =
          let is-round = ap (λ x. x.round) e in
          ⊎_elim
          (λ lt'. absurd (justified_refutes below m n bm bn (related below m n (suc i) c) p q r (reason_justified m n _ p q r why)
          (transfers_mono_present below m n bm bn (ih i lt') (approximant_antitone below m n (suc i) j lt' p q A))))
          (λ le'. omega arith)
          (cases_lt i j)

  -- round j + 1 calls related the j-th approximant
  pub related_is : (j : ℕ) → j ≤ k → (p q : ℕ) → p < m.states → q < n.states
      → Decides (related below m n (suc j) c p q) (Approximant below m n j p q)
  related_is j h p q hp hq = (related_approximant j h p q, approximant_related (suc j) j (omega arith) h p q hp hq)

  pub unstruck_approximant : (p q : ℕ) → p < m.states → q < n.states
      → Unstruck k c p q ↔ Approximant below m n k p q
  unstruck_approximant p q hp hq =
      let is = related_is k (omega arith) p q hp hq in
      (λ un. is.0 (related_from below m n (suc k) c p q hp hq un), λ A. (related_says below m n (suc k) c p q (is.1 A)).2)

-- ---- all rounds

module _ {L : Type 0} (below : L → L → Bool) (m n : Meaning L) (bm : Bounded m) (bn : Bounded n) (same : m.actions ≡ n.actions) where
  -- what a related pair with no reason is asked holds
  unreasoned_transfers : (k : ℕ) → k < 65535 → (c : Cells) → Sound below m n k c → (p q : ℕ) → related below m n (suc k) c p q ≡ true
      → reason m n (related below m n (suc k) c) p q ≡ None → Transfers below m n (λ t u. related below m n (suc k) c t u ≡ true) p q
  unreasoned_transfers k few c S p q is none =
      no_reason_transfers below m n bm bn same _ p q
      (approximant_antitone below m n 0 k (omega arith) p q (related_approximant below m n bm bn k few c S k (omega arith) p q is)) none

  sound_opened : Sound below m n 0 (opened below m n)
  unfolding opened
  sound_opened p q hp hq =
      ⊎_elim (λ fits. is_unstruck (rw fits) fits) (λ fails. label_struck (rw fails) fails) (cases_Bool (below (m.label p) (n.label q)))

  sound_rounded : (k : ℕ) → k < 65535 → (c : Cells) → Sound below m n k c → Sound below m n (suc k) (rounded below m n (suc k) c)
  sound_rounded k few c S p q hp hq = go (rounding below m n (suc k) c p q) (S p q hp hq)
    where
      reason_kept : (j : ℕ) → j ≤ k
          → reason m n (related below m n (suc j) (rounded below m n (suc k) c)) p q ≡ reason m n (related below m n (suc j) c) p q
      reason_kept j h = reason_cong m n _ _ p q (λ t u lt lu. related_kept below m n (suc j) (suc k) (omega arith) c t u)

      go : Rounding below m n (suc k) c p q → Stands below m n k c p q → Stands below m n (suc k) (rounded below m n (suc k) c) p q
      go (keeps none e why) (is_unstruck un A) =
          let r = ap (λ x. x.round) un in
          let is = related_from below m n (suc k) c p q hp hq (omega arith) in
          is_unstruck (e ∙ un)
          (transfers_mono_present below m n bm bn (λ t u lt lu. related_approximant below m n bm bn k few c S k (omega arith) t u)
          (unreasoned_transfers k few c S p q is (why is)))
      go (keeps none e why) (label_struck l fails) = label_struck (e ∙ l) fails
      go (keeps none e why) (round_struck j r h l A found) = round_struck j r (omega arith) (e ∙ l) A (reason_kept j (omega arith) ∙ found)
      go (strikes_by r some e is why) old =
          round_struck k r (omega arith) e (related_approximant below m n bm bn k few c S k (omega arith) p q is)
          (reason_kept k (omega arith) ∙ why)

  pub sound : (k : ℕ) → k < 65535 → Sound below m n k (cells_after below m n k)
  unfolding cells_after
  sound zero few = sound_opened
  sound (suc k) few = sound_rounded k (omega arith) (cells_after below m n k) (sound k (omega arith))

  -- where a round strikes none, what is left related is a prebisimulation
  pub still_prebisimulation : (k : ℕ) → k < 65535 → newly_struck below m n (suc k) (cells_after below m n k) ≡ 0
      → Prebisimulation below m n (related below m n (suc k) (cells_after below m n k))
  still_prebisimulation k few still =
      let c = cells_after below m n k in
      record {
        present = λ p q is. let (hp, hq, le) = related_says below m n (suc k) c p q is in (hp, hq);
        transfers = λ p q is.
            let (hp, hq, le) = related_says below m n (suc k) c p q is in
            unreasoned_transfers k few c (sound k few) p q is ((still_keeps below m n (suc k) c still p q hp hq).1 is);
      }

  -- at any round, every prebisimulation is within what is left related
  pub greatest : (k : ℕ) → k < 65535 → (R : Relation) → Prebisimulation below m n R
      → (p q : ℕ) → R p q ≡ true → related below m n (suc k) (cells_after below m n k) p q ≡ true
  greatest k few R P p q rel =
      let (hp, hq) = P.present p q rel in
      (related_is below m n bm bn k few (cells_after below m n k) (sound k few) k (omega arith) p q hp hq).1
      (prebisimulation_approximant below m n R P k p q rel)
