-- The set of a node as the code makes it: from the sets of the nodes before it.
use Rattle.std.specs.Prelude.{ℕ, Bool, not, ◌&&◌, ◌||◌, List, bit_and, bit_or, nat_lt, slice_index}
use Rattle.systems.specs.Meaning.{Meaning}
use Rattle.systems.specs.Sets.{has, set_of, every, some_of}
use Rattle.formulas.specs.declared.node.Node.{Node}
use Rattle.formulas.specs.declared.node.Node.TheVariants.{True, False, Label, And, Or, Diamond, Box}

-- the set of the present states that pass a test
unfoldable pub states_where : {L : Type 0} → Meaning L → (ℕ → Bool) → ℕ
states_where m f = set_of 64 (λ p. nat_lt p m.states && f p)

-- whether some a-move of p leads into the set s
unfoldable pub can_enter : {L : Type 0} → Meaning L → (a s p : ℕ) → Bool
can_enter m a s p = some_of m.states (λ t. m.moves p a t && has s t)

-- whether p is closed on a and every a-move of p leads into the set s
unfoldable pub must_enter : {L : Type 0} → Meaning L → (a s p : ℕ) → Bool
must_enter m a s p = not (m.marks p a) && every m.states (λ t. not (m.moves p a t) || has s t)

-- a node's set
abbrev pub node_set : {L : Type 0} → (L → L → Bool) → Meaning L → List ℕ → Node L → ℕ
node_set below m sets True = set_of 64 (λ p. nat_lt p m.states)
node_set below m sets False = 0
node_set below m sets (Label l) = states_where m (λ p. below l (m.label p))
node_set below m sets (And i j) = bit_and (slice_index sets i) (slice_index sets j)
node_set below m sets (Or i j) = bit_or (slice_index sets i) (slice_index sets j)
node_set below m sets (Diamond a i) = states_where m (can_enter m a (slice_index sets i))
node_set below m sets (Box a i) = states_where m (must_enter m a (slice_index sets i))
