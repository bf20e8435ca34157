-- The formulas that the nodes of a sheet stand for, and faulty nodes.
use Rattle.std.specs.Prelude.{ℕ, ◌+◌, Bool, false, cond, ◌||◌, List, [], ◌∷◌, ◌++◌, Some, None, Option, nat_le, slice_index_or}
use Rattle.formulas.specs.Formula.{Formula, top, bottom, labelled, both, either, diamond, box}
use Rattle.formulas.specs.declared.node.Node.{Node}
use Rattle.formulas.specs.declared.node.Node.TheVariants.{True, False, Label, And, Or, Diamond, Box}

-- what a node stands for, given the formulas of the nodes before it
unfoldable pub formula : {L : Type 0} → List (Formula L) → Node L → Formula L
formula fs True = top
formula fs False = bottom
formula fs (Label l) = labelled l
formula fs (And i j) = both (slice_index_or fs i bottom) (slice_index_or fs j bottom)
formula fs (Or i j) = either (slice_index_or fs i bottom) (slice_index_or fs j bottom)
formula fs (Diamond a i) = diamond a (slice_index_or fs i bottom)
formula fs (Box a i) = box a (slice_index_or fs i bottom)

-- what nodes stand for in order, after the formulas of the nodes before them
unfoldable pub standing_from : {L : Type 0} → List (Formula L) → List (Node L) → List (Formula L)
standing_from fs [] = fs
standing_from fs (n ∷ ns) = standing_from (fs ++ formula fs n ∷ []) ns

-- what the nodes of a sheet stand for
unfoldable pub standing : {L : Type 0} → List (Node L) → List (Formula L)
standing ns = standing_from [] ns

-- Whether a node is faulty as number i of a sheet: a child that is not before it, or an action that the system does not have.
abbrev pub faulty : {L : Type 0} → (actions i : ℕ) → Node L → Bool
faulty actions i True = false
faulty actions i False = false
faulty actions i (Label l) = false
faulty actions i (And j k) = nat_le i j || nat_le i k
faulty actions i (Or j k) = nat_le i j || nat_le i k
faulty actions i (Diamond a j) = nat_le actions a || nat_le i j
faulty actions i (Box a j) = nat_le actions a || nat_le i j

-- the lowest faulty node's number, where the first node has the number i
unfoldable pub first_fault_from : {L : Type 0} → (actions i : ℕ) → List (Node L) → Option ℕ
first_fault_from actions i [] = None
first_fault_from actions i (n ∷ ns) = cond (faulty actions i n) (Some i) (first_fault_from actions (i + 1) ns)

unfoldable pub first_fault : {L : Type 0} → (actions : ℕ) → List (Node L) → Option ℕ
first_fault actions ns = first_fault_from actions 0 ns
