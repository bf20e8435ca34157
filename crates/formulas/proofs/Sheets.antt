-- What holds of faulty nodes and of the formulas that nodes stand for.
use Rattle.std.proofs.Common.{◌≡◌, ℕ, ◌+◌, ◌<◌, Bool, false, cond, List, [], ◌∷◌, ◌++◌, length, get_or, Some, None, sym, refl, ap, ◌∙◌, ap₂, zero-add, arith}
use Rattle.std.specs.List.{enumerate_from, position_from, position}
use Rattle.std.proofs.lemmas.Iterator.Adapters.{position_from-zero}
use Rattle.std.proofs.lemmas.Bool.Decides.{nat_tests}
use Rattle.std.proofs.lemmas.List.{length_push}
use Rattle.std.proofs.lemmas.List.FromFn.{length-enumerate_from, get_or-enumerate_from}
use Rattle.std.proofs.lemmas.List.Sums.{fails_before_first}
use Rattle.formulas.specs.Formula.{Formula}
use Rattle.formulas.specs.Sheet.{formula, standing_from, standing, faulty, first_fault_from, first_fault}
use Rattle.formulas.specs.declared.node.Node.{Node}

-- ---- faulty nodes

module _ {L : Type 0} (actions : ℕ) where
  -- whether a node is faulty as the number that it stands with
  abbrev pub is_faulty_at : ℕ × Node L → Bool
  is_faulty_at x = faulty actions x.0 x.1

  first_fault_from_is : (k : ℕ) (ns : List (Node L)) → position_from is_faulty_at k (enumerate_from k ns) ≡ first_fault_from actions k ns
  unfolding first_fault_from
  first_fault_from_is k [] = refl
  first_fault_from_is k (n ∷ ns) = ap (cond (faulty actions k n) (Some k)) (first_fault_from_is (k + 1) ns)

  -- the lowest fault is found by position
  pub first_fault_is : (ns : List (Node L)) → position is_faulty_at (enumerate_from 0 ns) ≡ first_fault actions ns
  unfolding first_fault
  first_fault_is ns = position_from-zero is_faulty_at (enumerate_from 0 ns) ∙ first_fault_from_is 0 ns

  -- where there is no lowest fault, no node is faulty
  pub faultless : (ns : List (Node L)) → first_fault actions ns ≡ None → (i : ℕ) (n : Node L) → i < length ns → n ≡ get_or ns i n → faulty actions i n ≡ false
  faultless ns e i n h r =
      let all : List (ℕ × Node L) = enumerate_from 0 ns in
      let none : position is_faulty_at all ≡ None = first_fault_is ns ∙ e in
      let here : get_or all i (i, n) ≡ (i, n) = get_or-enumerate_from 0 ns i (i, n) h ∙ ap₂ (λ (j : ℕ) (x : Node L). (j, x)) (zero-add i) (sym r) in
      ap is_faulty_at (sym here)
      ∙ fails_before_first is_faulty_at all i (i, n) (grind (arith, nat_tests, none, length-enumerate_from 0 ns))

-- ---- the formulas that nodes stand for

module _ {L : Type 0} where
  standing_from_push : (fs : List (Formula L)) (ns : List (Node L)) (n : Node L) → standing_from fs (ns ++ n ∷ []) ≡ standing_from fs ns ++ formula (standing_from fs ns) n ∷ []
  unfolding standing_from
  standing_from_push fs [] n = refl
  standing_from_push fs (x ∷ ns) n = standing_from_push (fs ++ formula fs x ∷ []) ns n

  pub standing_push : (ns : List (Node L)) (n : Node L) → standing (ns ++ n ∷ []) ≡ standing ns ++ formula (standing ns) n ∷ []
  unfolding standing
  standing_push ns n = standing_from_push [] ns n

  length-standing_from : (fs : List (Formula L)) (ns : List (Node L)) → length (standing_from fs ns) ≡ length fs + length ns
  unfolding standing_from
  length-standing_from fs [] = omega arith
  length-standing_from fs (n ∷ ns) = omega (arith, length-standing_from (fs ++ formula fs n ∷ []) ns, length_push fs (formula fs n))

  pub length-standing : (ns : List (Node L)) → length (standing ns) ≡ length ns
  unfolding standing
  length-standing ns = omega (arith, length-standing_from [] ns)
