-- The rows of silent closures, as the loops build them.
use Rattle.std.specs.Prelude.{◌≡◌, ℕ, suc, ◌+◌, ◌<◌, Bool, true, false, cond, ◌&&◌, ◌||◌, List, replicate, ◌==◌, bit_or, nat_lt, slice_index}
use Rattle.std.proofs.Math.Path.{sym, ap, ap₂}
use Rattle.std.proofs.Common.{◌∙◌, refl, set, get_or, ◌-◌, ◌≤◌, ◌++◌, length, take, drop, ◌⊎◌, inl, inr, arith}
use Rattle.std.proofs.lemmas.List.{ext_get_or, length-append, length-drop, length-replicate, get_or_append_left, get_or-append_right, get_or-drop, get_or-take, get_or-replicate, get_or_past}
use Rattle.std.proofs.Math.Bool.{or_comm, or-false}
use Rattle.std.proofs.Math.Numerals.{add-one}
use Rattle.std.proofs.lemmas.Bool.{ltb-true, and_parts, cases_lt}
use Rattle.systems.specs.Meaning.{Meaning, Bounded}
use Rattle.systems.specs.Sets.{has, set_of, some_of}
use Rattle.systems.proofs.Sets.{has-set_of, set_of_cong, set_of_none, set_of_or, some_cong, some_within}
use Rattle.views.specs.Weak.{Passed, in_rows, overlap, leads, through, silent, rows_through, silent_rows, loops, diverging}
use Rattle.systems.proofs.Cells.{length-written, get_or-written, get_or-written_past}

-- what a test guards counts only where the test passes
guarded_cong : (b x y : Bool) → (b ≡ true → x ≡ y) → (b && x) ≡ (b && y)
guarded_cong true x y e = e refl
guarded_cong false x y e = refl

-- ---- joining rows

module _ (x : ℕ → Bool) (r : ℕ → ℕ → Bool) where
  pub leads_none : 0 ≡ set_of 64 (leads 0 x r)
  unfolding leads some_of
  leads_none = sym (set_of_none 64)

  pub leads_with : (k found row : ℕ) → x k ≡ true → found ≡ set_of 64 (leads k x r) → row ≡ set_of 64 (r k) → bit_or found row ≡ set_of 64 (leads (k + 1) x r)
  unfolding leads some_of
  leads_with k found row in_Set e d =
      rw add-one
      (ap₂ bit_or e d ∙ set_of_or 64 (leads k x r) (r k)
      ∙ set_of_cong 64 _ _ (λ t h. or_comm (leads k x r t) (r k t) ∙ ap (λ b. (b && r k t) || leads k x r t) (sym in_Set)))

  pub leads_without : (k found : ℕ) → x k ≡ false → found ≡ set_of 64 (leads k x r) → found ≡ set_of 64 (leads (k + 1) x r)
  unfolding leads some_of
  leads_without k found out e = rw add-one (e ∙ set_of_cong 64 _ _ (λ t h. ap (λ b. (b && r k t) || leads k x r t) (sym out)))

-- ---- one more state to pass through

module _ {L : Type 0} (m : Meaning L) where
  pub first-row : (p row onward : ℕ) → row ≡ set_of 64 (λ j. has onward j || j == p) → onward ≡ set_of 64 (m.moves p 0) → row ≡ set_of 64 (through m 0 p)
  unfolding through
  first-row p row onward e d = e ∙ set_of_cong 64 _ _ (λ j h. ap (λ b. b || j == p) (ap (λ n. has n j) d ∙ has-set_of 64 (m.moves p 0) j h))

  pub next_row : (k p row via : ℕ) → k < 64 → row ≡ set_of 64 (through m k p) → via ≡ set_of 64 (through m k k)
      → cond (has row k) (bit_or row via) row ≡ set_of 64 (through m (suc k) p)
  unfolding through
  next_row k p row via h e d = ap (λ b. cond b (bit_or row via) row) (ap (λ n. has n k) e ∙ has-set_of 64 (through m k p) k h) ∙ go (through m k p k)
    where
      go : (b : Bool) → cond b (bit_or row via) row ≡ set_of 64 (λ t. through m k p t || (b && through m k k t))
      go true = ap₂ bit_or e d ∙ set_of_or 64 (through m k p) (through m k k)
      go false = e ∙ set_of_cong 64 _ _ (λ t l. sym (or-false (through m k p t)))

-- the first n rows let through, and the others put back
pub passed_part : (rows part : List ℕ) (n k : ℕ) → n ≤ 64 → length rows ≡ 64 → length part ≡ n
    → ((p : ℕ) → p < n → get_or part p 0 ≡ cond (has (get_or (take n rows) p 0) k) (bit_or (get_or (take n rows) p 0) (get_or rows k 0)) (get_or (take n rows) p 0))
    → Passed rows n k (part ++ drop n rows)
passed_part rows part n k few long held through_k = record {
  long = omega (arith, length-append part (drop n rows), length-drop n rows);
  each = λ p l.
      get_or_append_left part (drop n rows) 0 p (omega (arith, held)) ∙ through_k p l
      ∙ ap (λ (row : ℕ). cond (has row k) (bit_or row (get_or rows k 0)) row) (get_or-take n rows p 0 l);
  rest = λ p h.
      get_or-append_right part (drop n rows) n p 0 held h ∙ get_or-drop n rows (p - n) 0
      ∙ ap (λ (i : ℕ). get_or rows i 0) (omega arith);
}

module _ {L : Type 0} (m : Meaning L) (bounded : Bounded m) where
  pub row_held : (k p : ℕ) → p < m.states → slice_index (rows_through m k) p ≡ set_of 64 (through m k p)
  unfolding rows_through
  row_held k p h = get_or-written _ (replicate 64 0) m.states p 0 h (omega (arith, bounded.few_states))

  row_absent : (k p : ℕ) → m.states ≤ p → slice_index (rows_through m k) p ≡ 0
  unfolding rows_through
  row_absent k p h = get_or-written_past _ (replicate 64 0) m.states p 0 h ∙ empty (cases_lt p 64)
    where
      empty : (p < 64) ⊎ (64 ≤ p) → get_or {A = ℕ} (replicate 64 0) p 0 ≡ 0
      empty (inl l) = get_or-replicate 64 p 0 0 l
      empty (inr l) = get_or_past (replicate 64 0) p 0 (omega (arith, length-replicate {A = ℕ} 64 0))

  -- the row of each state lets itself through state k; those of absent states stay empty
  pub rows_passed : (rows after : List ℕ) (n k : ℕ) → n ≡ m.states → k < m.states → rows ≡ rows_through m k → Passed rows n k after → after ≡ rows_through m (k + 1)
  unfolding rows_through
  rows_passed rows after n k all h e passed =
      rw add-one
      (ext_get_or 0 after (rows_through m (suc k)) (passed.long ∙ sym (length-written _ (replicate 64 0) m.states ∙ length-replicate {A = ℕ} 64 0))
      (λ p l. go p (cases_lt p m.states)))
    where
      joined : ℕ → ℕ → ℕ
      joined row via = cond (has row k) (bit_or row via) row

      go : (p : ℕ) → (p < m.states) ⊎ (m.states ≤ p) → get_or after p 0 ≡ get_or (rows_through m (suc k)) p 0
      go p (inl l) =
          passed.each p (omega (arith, all)) ∙ ap (λ xs. joined (get_or xs p 0) (get_or xs k 0)) e
          ∙ next_row m k p _ _ (omega (arith, bounded.few_states)) (row_held k p l) (row_held k k h) ∙ sym (row_held (suc k) p l)
      go p (inr l) = passed.rest p (omega (arith, all)) ∙ ap (λ xs. get_or xs p 0) e ∙ row_absent k p l ∙ sym (row_absent (suc k) p l)

  -- ---- what the rows of silent closures say

  module _ (rows : List ℕ) (closed : rows ≡ silent_rows m) where
    pub row-silent : (p t : ℕ) → p < m.states → t < 64 → has (slice_index rows p) t ≡ silent m p t
    row-silent p t h l = ap (λ xs. has (slice_index xs p) t) closed ∙ ap (λ n. has n t) (row_held m.states p h) ∙ has-set_of 64 (silent m p) t l

    -- what the code takes for the looping states and for the diverging ones
    pub loops_found : (n : ℕ) → n ≡ m.states
        → set_of 64 (λ t. nat_lt t n && has (set_of 64 (leads n (has (set_of 64 (m.moves t 0))) (in_rows rows))) t) ≡ set_of 64 (loops m)
    unfolding loops leads
    loops_found n same =
        let few = bounded.few_states in
        ap (λ k. set_of 64 (λ t. nat_lt t k && has (set_of 64 (leads k (has (set_of 64 (m.moves t 0))) (in_rows rows))) t)) same
        ∙ set_of_cong 64 _ _ (λ t h. ap (◌&&◌ (nat_lt t m.states))
        (has-set_of 64 _ t h
        ∙ some_cong m.states _ _ (λ q l. ap₂ ◌&&◌ (has-set_of 64 (m.moves t 0) q (omega arith)) (row-silent q t l h))))

    pub diverging_found : (n : ℕ) → n ≡ m.states → (set : ℕ) → set ≡ set_of 64 (loops m)
        → set_of 64 (λ p. nat_lt p n && overlap (slice_index rows p) set) ≡ set_of 64 (diverging m)
    unfolding diverging loops
    diverging_found n same set e =
        ap (λ k. set_of 64 (λ p. nat_lt p k && overlap (slice_index rows p) set)) same
        ∙ set_of_cong 64 _ _ (λ p h. guarded_cong _ _ _ (λ l. found p (ltb-true p m.states l)))
      where
        looping : (t : ℕ) → loops m t ≡ true → t < m.states
        looping t k = ltb-true t m.states (and_parts _ _ k).0

        found : (p : ℕ) → p < m.states → overlap (slice_index rows p) set ≡ some_of m.states (λ t. silent m p t && loops m t)
        found p h =
            some_cong 64 _ (λ t. silent m p t && loops m t) (λ t l. ap₂ ◌&&◌ (row-silent p t h l) (ap (λ n. has n t) e ∙ has-set_of 64 (loops m) t l))
            ∙ some_within m.states 64 _ bounded.few_states (λ t k. looping t (and_parts _ _ k).1)
