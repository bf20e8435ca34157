-- How many rounds can strike: each strikes a pair that no round before it struck, so no more rounds than there are pairs.
use Rattle.std.proofs.Common.{◌≡◌, ℕ, zero, suc, ◌+◌, ◌*◌, ◌<◌, ◌≤◌, Bool, cond, leb, is_some, arith}
use Rattle.std.proofs.lemmas.Bool.{leb-true, le-leb, lt-leb}
use Rattle.std.proofs.lemmas.Bool.Decides.{nat_tests}
use Rattle.systems.specs.Meaning.{Meaning}
use Rattle.preorder.specs.Strikes.{Cells, Struck, count_pairs, strikes, rounded, cells_after, newly_struck}
use Rattle.preorder.proofs.Counting.{count_pairs_bounded, count_pairs_full, count_pairs_apart}
use Rattle.preorder.proofs.Rounds.{related_says, Rounding, keeps, strikes_by, rounding}

-- how many pairs are struck after k rounds
abbrev pub struck_count : {L : Type 0} → Meaning L → Meaning L → ℕ → Cells → ℕ
struck_count m n k c = count_pairs m.states n.states (λ p q. leb (c p q).round k)

module _ {L : Type 0} (below : L → L → Bool) (m n : Meaning L) where
  -- a round's newly struck pairs come on top of those struck before
  struck_count-rounded : (k : ℕ) (c : Cells)
      → struck_count m n k c + newly_struck below m n (suc k) c ≤ struck_count m n (suc k) (rounded below m n (suc k) c)
  unfolding newly_struck
  struck_count-rounded k c = count_pairs_apart m.states n.states _ _ _ (λ p q hp hq. go p q (rounding below m n (suc k) c p q))
    where
      grows : (x : ℕ) → cond (leb x k) 1 0 + 0 ≤ cond (leb x (suc k)) 1 0
      grows x = grind (arith, nat_tests)

      go : (p q : ℕ) → Rounding below m n (suc k) c p q
          → cond (leb (c p q).round k) 1 0 + cond (is_some (strikes below m n (suc k) c p q)) 1 0
          ≤ cond (leb (rounded below m n (suc k) c p q).round (suc k)) 1 0
      go p q (keeps none e why) = rw (none, e) (grows (c p q).round)
      go p q (strikes_by r some e is why) =
          rw (some, e, lt-leb (c p q).round k (related_says below m n (suc k) c p q is).2, le-leb (suc k) (suc k) (omega arith)) (omega arith)

  -- each of the first k rounds strikes a pair
  abbrev pub EachStrikes : ℕ → Type 0
  EachStrikes k = (j : ℕ) → j < k → newly_struck below m n (suc j) (cells_after below m n j) ≡ 0 → ⊥

  -- then at least k pairs are struck after them
  pub bound : (k : ℕ) → EachStrikes k → k ≤ struck_count m n k (cells_after below m n k)
  unfolding cells_after
  bound zero strike = omega arith
  bound (suc k) strike =
      let before = bound k (λ j h. strike j (omega arith)) in
      let more = struck_count-rounded k (cells_after below m n k) in
      let here = strike k (omega arith) in
      omega arith

  -- and as many rounds as there are pairs have struck them all
  pub all_struck : (k : ℕ) → EachStrikes k → m.states * n.states ≤ k
      → (p q : ℕ) → p < m.states → q < n.states → Struck k (cells_after below m n k) p q
  all_struck k strike enough p q hp hq =
      let many = bound k strike in
      leb-true _ _ (count_pairs_full m.states n.states (λ x y. leb (cells_after below m n k x y).round k) (omega arith) p q hp hq)

  -- so no more rounds than there are pairs can strike
  pub rounds_bounded : (k : ℕ) → EachStrikes k → k ≤ m.states * n.states
  rounds_bounded k strike =
      let many = bound k strike in
      let all = count_pairs_bounded m.states n.states (λ p q. leb (cells_after below m n k p q).round k) in
      omega arith
