-- A judged answer sheet, node by node.
use Rattle.std.proofs.Common.{◌≡◌, ℕ, ◌+◌, ◌<◌, ◌≤◌, Bool, false, List, [], ◌∷◌, ◌++◌, map, length, get_or, take, drop, set, sym, refl, ap, ◌∙◌, ap₂, arith}
use Rattle.std.proofs.lemmas.List.{append_assoc, length-map, length-take-le, get_or_append_left, get_or-map, map_push, set_at, take_at, take_more, drop_more}
use Rattle.std.proofs.lemmas.Bool.Decides.{Decides-at}
use Rattle.systems.specs.Meaning.{Meaning, Bounded}
use Rattle.systems.specs.Sets.{has}
use Rattle.formulas.specs.Formula.{Formula, bottom}
use Rattle.formulas.specs.Sheet.{formula, standing_from, standing, faulty}
use Rattle.formulas.specs.NodeSets.{node_set}
use Rattle.formulas.specs.Judging.{satisfying, judged, Judges}
use Rattle.formulas.specs.declared.node.Node.{Node}
use Rattle.formulas.proofs.Satisfaction.{satisfying_decides, node_set_is}
use Rattle.formulas.proofs.Sheets.{standing_push, length-standing}

module _ {L : Type 0} (below : L → L → Bool) (m : Meaning L) (b : Bounded m) where
  sets_of : List (Node L) → List ℕ
  sets_of ns = map (satisfying below m) (standing ns)

  length_sets : (ns : List (Node L)) → length (sets_of ns) ≡ length ns
  unfolding sets_of
  length_sets ns = length-map (standing ns) (satisfying below m) ∙ length-standing ns

  sets_push : (ns : List (Node L)) (n : Node L) → sets_of (ns ++ n ∷ []) ≡ sets_of ns ++ satisfying below m (formula (standing ns) n) ∷ []
  unfolding sets_of
  sets_push ns n = ap (map (satisfying below m)) (standing_push ns n) ∙ map_push (satisfying below m) (standing ns) (formula (standing ns) n)

  pub judged_none : (cells : List ℕ) → judged below m [] cells ≡ cells
  unfolding judged standing standing_from
  judged_none cells = refl

  -- one node more
  pub judged_more : (ns : List (Node L)) (cells : List ℕ) (i : ℕ) (n : Node L) {xs : List ℕ} {v : ℕ} → i < length ns → length ns ≤ length cells → n ≡ get_or ns i n → faulty m.actions i n ≡ false → xs ≡ judged below m (take i ns) cells → v ≡ node_set below m (take i xs) n → set xs i v ≡ judged below m (take (i + 1) ns) cells
  unfolding judged sets_of
  judged_more ns cells i n {xs} h k r f e w =
      ap₂ (λ (zs : List ℕ) (z : ℕ). set zs i z) split (w ∙ value)
      ∙ set_at done _ _ _ i length_done
      ∙ sym (append_assoc done (satisfying below m (formula fs n) ∷ []) (drop (i + 1) cells))
      ∙ sym (ap₂ ◌++◌ (ap sets_of front ∙ sets_push (take i ns) n) (ap (λ (j : ℕ). drop j cells) (length-take-le (i + 1) ns (omega arith))))
    where
      fs : List (Formula L)
      fs = standing (take i ns)

      done : List ℕ
      done = sets_of (take i ns)

      length_front : length (take i ns) ≡ i
      length_front = length-take-le i ns (omega arith)

      length_done : length done ≡ i
      length_done = length_sets (take i ns) ∙ length_front

      split : xs ≡ done ++ get_or cells i 0 ∷ drop (i + 1) cells
      split = e ∙ ap (◌++◌ done) (ap (λ (j : ℕ). drop j cells) length_front ∙ drop_more cells i 0 (omega arith))

      before : take i xs ≡ done
      before = ap (take i) split ∙ take_at done _ i length_done

      value : node_set below m (take i xs) n ≡ satisfying below m (formula fs n)
      value = node_set_is below m b (take i xs) fs before n (ap (λ (j : ℕ). faulty m.actions j n) (ap length before ∙ length_done) ∙ f)

      front : take (i + 1) ns ≡ take i ns ++ n ∷ []
      front = take_more ns i n h ∙ ap (λ (x : Node L). take i ns ++ x ∷ []) (sym r)

  pub judged_judges : (ns : List (Node L)) (cells after : List ℕ) → after ≡ judged below m ns cells → Judges below m ns after
  unfolding judged sets_of
  judged_judges ns cells after e i p h l =
      let in-sets : i < length (map (satisfying below m) (standing ns)) = omega (arith, length_sets ns) in
      let in-standing : i < length (standing ns) = omega (arith, length-standing ns) in
      Decides-at _ _
      (ap (λ (x : ℕ). has x p) (ap (λ (xs : List ℕ). get_or xs i 0) e ∙ get_or_append_left _ _ 0 i in-sets ∙ get_or-map (satisfying below m) (standing ns) i bottom 0 in-standing))
      (satisfying_decides below m b (get_or (standing ns) i bottom) p l)
