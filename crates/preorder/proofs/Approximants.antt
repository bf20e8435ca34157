-- The approximants shrink, and every prebisimulation lies within each of them.
use Rattle.std.proofs.Common.{◌≡◌, ℕ, zero, suc, ◌<◌, ◌≤◌, Bool, true, ◌⊎◌, inl, inr, arith}
use Rattle.std.proofs.lemmas.Bool.{cases_lt}
use Rattle.systems.specs.Meaning.{Meaning, Bounded}
use Rattle.preorder.specs.Prebisimulation.{Relation, Transfers, Prebisimulation, Approximant}

module _ {L : Type 0} (below : L → L → Bool) (m n : Meaning L) where
  -- what is asked of a pair over R is asked of it over S, if S has the pairs of R that its moves lead to
  pub transfers_mono : {R S : ℕ → ℕ → Type 0} {p q : ℕ}
      → ((a t u : ℕ) → m.moves p a t ≡ true → n.moves q a u ≡ true → R t u → S t u)
      → Transfers below m n R p q → Transfers below m n S p q
  transfers_mono f T = record {
    labels = T.labels;
    forth = λ a t move. let (u, answer, rel) = T.forth a t move in (u, answer, f a t u move answer rel);
    closed = T.closed;
    back = λ a u shut move. let (t, answer, rel) = T.back a u shut move in (t, answer, f a t u answer move rel);
  }

  approximant_before : (k p q : ℕ) → Approximant below m n (suc k) p q → Approximant below m n k p q
  approximant_before zero p q T = T.labels
  approximant_before (suc k) p q T = transfers_mono (λ a t u move answer. approximant_before k t u) T

  pub approximant_antitone : (j k : ℕ) → j ≤ k → (p q : ℕ) → Approximant below m n k p q → Approximant below m n j p q
  approximant_antitone j zero h p q A = let e : j ≡ 0 = omega arith in rw e A
  approximant_antitone j (suc k) h p q A =
      go (cases_lt k j) (λ h'. approximant_antitone j k h' p q (approximant_before k p q A))
    where
      go : (k < j) ⊎ (j ≤ k) → (j ≤ k → Approximant below m n j p q) → Approximant below m n j p q
      go (inl lt) ih = let e : j ≡ suc k = omega arith in rw e A
      go (inr le) ih = ih le

  pub prebisimulation_approximant : (R : Relation) → Prebisimulation below m n R
      → (k p q : ℕ) → R p q ≡ true → Approximant below m n k p q
  prebisimulation_approximant R P zero p q rel = (P.transfers p q rel).labels
  prebisimulation_approximant R P (suc k) p q rel =
      transfers_mono (λ a t u move answer. prebisimulation_approximant R P k t u) (P.transfers p q rel)

-- over present states alone
pub transfers_mono_present : {L : Type 0} (below : L → L → Bool) (m n : Meaning L) (bm : Bounded m) (bn : Bounded n)
    {R S : ℕ → ℕ → Type 0} {p q : ℕ} → ((t u : ℕ) → t < m.states → u < n.states → R t u → S t u)
    → Transfers below m n R p q → Transfers below m n S p q
transfers_mono_present below m n bm bn f =
    transfers_mono below m n (λ a t u move answer. f t u (bm.moves_present _ a t move).2 (bn.moves_present _ a u answer).2)
