-- The test of satisfaction decides satisfaction, and a node's set is the set of its formula.
use Rattle.std.proofs.Common.{◌≡◌, ℕ, ◌<◌, Bool, false, not, ◌&&◌, ◌||◌, ltb, leb, List, map, length, get_or, Decides, sym, refl, ap, ◌∙◌, ap₂, arith}
use lib.Bits.{bit_and, bit_or}
use Rattle.std.proofs.lemmas.List.{get_or-map, length-map}
use Rattle.std.proofs.lemmas.Bool.{false≢true, lt-ltb, ltb-true, leb-false, and_parts, and_from, or_parts, not-true, not_from_false}
use Rattle.std.proofs.Math.Bool.{and-true, and-false, and-or_distrib_left}
use Rattle.std.proofs.lemmas.Bool.Decides.{nat_tests, Decides-at, Decides-and, Decides-or, Decides-like}
use Rattle.systems.specs.Meaning.{Meaning, Bounded}
use Rattle.systems.specs.Sets.{has, set_of}
use Rattle.systems.specs.Containment.{every_decides, decides_implies}
use Rattle.systems.proofs.Sets.{set_of_cong, set_of_and, set_of_or, set_of_none, some_decides, has_set_of_any, some_cong, every_cong}
use Rattle.formulas.specs.Formula.{Formula, top, bottom, labelled, both, either, diamond, box, Satisfies}
use Rattle.formulas.specs.Sheet.{formula, faulty}
use Rattle.formulas.specs.NodeSets.{states_where, can_enter, must_enter, node_set}
use Rattle.formulas.specs.Judging.{holds, satisfying}
use Rattle.formulas.specs.declared.node.Node.{Node}
use Rattle.formulas.specs.declared.node.Node.TheVariants.{True, False, Label, And, Or, Diamond, Box}

-- ---- sets from the sets of the parts

module _ {L : Type 0} (below : L → L → Bool) (m : Meaning L) where
  satisfying_by : (f : Formula L) (t : ℕ → Bool) → ((p : ℕ) → t p ≡ holds below m p f) → states_where m t ≡ satisfying below m f
  unfolding satisfying states_where
  satisfying_by f t e = set_of_cong 64 _ _ (λ p h. ap (◌&&◌ (ltb p m.states)) (e p))

  satisfying_top : set_of 64 (λ p. ltb p m.states) ≡ satisfying below m top
  unfolding satisfying holds
  satisfying_top = set_of_cong 64 _ _ (λ p h. sym (and-true (ltb p m.states)))

  satisfying_bottom : 0 ≡ satisfying below m bottom
  unfolding satisfying holds
  satisfying_bottom = sym (set_of_none 64) ∙ set_of_cong 64 _ _ (λ p h. sym (and-false (ltb p m.states)))

  satisfying_both : (f g : Formula L) → bit_and (satisfying below m f) (satisfying below m g) ≡ satisfying below m (both f g)
  unfolding satisfying holds
  satisfying_both f g = set_of_and 64 _ _ ∙ set_of_cong 64 _ _ (λ p h. grind (arith, nat_tests))

  satisfying_either : (f g : Formula L) → bit_or (satisfying below m f) (satisfying below m g) ≡ satisfying below m (either f g)
  unfolding satisfying holds
  satisfying_either f g = set_of_or 64 _ _ ∙ set_of_cong 64 _ _ (λ p h. sym (and-or_distrib_left (ltb p m.states) _ _))

module _ {L : Type 0} (below : L → L → Bool) (m : Meaning L) (b : Bounded m) where
  pub holds_decides : (f : Formula L) (p : ℕ) → Decides (holds below m p f) (Satisfies below m p f)
  unfolding holds
  holds_decides top p = (λ e. tt, λ s. refl)
  holds_decides bottom p = (λ e. absurd (false≢true e), λ s. absurd s)
  holds_decides (labelled l) p = (λ e. e, λ s. s)
  holds_decides (both f g) p = Decides-and _ _ (holds_decides f p) (holds_decides g p)
  holds_decides (either f g) p = Decides-or _ _ (holds_decides f p) (holds_decides g p)
  holds_decides (diamond a f) p =
      Decides-like _
      (λ s. (s.0, (and_parts _ _ s.2).0, (holds_decides f s.0).0 (and_parts _ _ s.2).1))
      (λ s. (s.0, (b.moves_present p a s.0 s.1).2, and_from _ _ s.1 ((holds_decides f s.0).1 s.2)))
      (some_decides m.states (λ t. m.moves p a t && holds below m t f))
  holds_decides (box a f) p =
      Decides-and _ _ (not-true _, not_from_false _)
      (Decides-like _
      (λ e t h. (holds_decides f t).0 ((decides_implies _ _).0 (e t (b.moves_present p a t h).2) h))
      (λ s t l. (decides_implies _ _).1 (λ h. (holds_decides f t).1 (s t h)))
      (every_decides m.states (λ t. not (m.moves p a t) || holds below m t f)))

  -- ---- the set of the satisfying states

  pub has-satisfying : (f : Formula L) (p : ℕ) → p < m.states → has (satisfying below m f) p ≡ holds below m p f
  unfolding satisfying
  has-satisfying f p h =
      has_set_of_any 64 _ (λ q e. omega (arith, ltb-true q m.states (and_parts _ _ e).0, b.few_states)) p
      ∙ ap (λ (x : Bool). x && holds below m p f) (lt-ltb p m.states h)

  pub satisfying_decides : (f : Formula L) (p : ℕ) → p < m.states → Decides (has (satisfying below m f) p) (Satisfies below m p f)
  satisfying_decides f p h = Decides-at _ _ (has-satisfying f p h) (holds_decides f p)

  -- ---- a node's set, with the formulas of the nodes before it

  module _ (sets : List ℕ) (fs : List (Formula L)) (e : sets ≡ map (satisfying below m) fs) where
    child_set : (j : ℕ) → leb (length sets) j ≡ false → get_or sets j 0 ≡ satisfying below m (get_or fs j bottom)
    child_set j h =
        ap (λ (xs : List ℕ). get_or xs j 0) e
        ∙ get_or-map (satisfying below m) fs j bottom 0 (omega (arith, ap length e, length-map fs (satisfying below m), leb-false (length sets) j h))

    has_child : (j : ℕ) → leb (length sets) j ≡ false → (t : ℕ) → t < m.states → has (get_or sets j 0) t ≡ holds below m t (get_or fs j bottom)
    has_child j h t l = ap (λ (x : ℕ). has x t) (child_set j h) ∙ has-satisfying (get_or fs j bottom) t l

    pub node_set_is : (n : Node L) → faulty m.actions (length sets) n ≡ false → node_set below m sets n ≡ satisfying below m (formula fs n)
    unfolding formula holds can_enter must_enter
    node_set_is True h = satisfying_top below m
    node_set_is False h = satisfying_bottom below m
    node_set_is (Label l) h = satisfying_by below m (labelled l) _ (λ p. refl)
    node_set_is (And i j) h =
        ap₂ bit_and (child_set i (or_parts _ _ h).0) (child_set j (or_parts (leb (length sets) i) _ h).1) ∙ satisfying_both below m _ _
    node_set_is (Or i j) h =
        ap₂ bit_or (child_set i (or_parts _ _ h).0) (child_set j (or_parts (leb (length sets) i) _ h).1) ∙ satisfying_either below m _ _
    node_set_is (Diamond a i) h =
        satisfying_by below m (diamond a (get_or fs i bottom)) _
        (λ p. some_cong m.states _ _ (λ t l. ap (◌&&◌ (m.moves p a t)) (has_child i (or_parts (leb m.actions a) _ h).1 t l)))
    node_set_is (Box a i) h =
        satisfying_by below m (box a (get_or fs i bottom)) _
        (λ p. ap (◌&&◌ (not (m.marks p a))) (every_cong m.states _ _ (λ t l. ap (◌||◌ (not (m.moves p a t))) (has_child i (or_parts (leb m.actions a) _ h).1 t l))))
