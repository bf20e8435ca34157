-- The test of satisfaction, and what judging a sheet answers and writes.
use Rattle.std.specs.Prelude.{ℕ, ◌<◌, Bool, true, false, not, ◌&&◌, ◌||◌, List, ◌++◌, map, length, drop, Some, None, Ok, Err, Decides, Option, Result, nat_le, nat_lt, slice_index, slice_index_or}
use Rattle.systems.specs.Meaning.{Meaning}
use Rattle.systems.specs.Sets.{has, set_of, every, some_of}
use Rattle.formulas.specs.Formula.{Formula, top, bottom, labelled, both, either, diamond, box, Satisfies}
use Rattle.formulas.specs.Sheet.{standing, first_fault}
use Rattle.formulas.specs.declared.node.Node.{Node}
use Rattle.formulas.specs.declared.refusal.Refusal.{Refusal}
use Rattle.formulas.specs.declared.refusal.Refusal.TheVariants.{Node as FaultyNode, AnswersShort}

-- the answer, from the lowest faulty node and whether the answer sheet has a cell for each node
abbrev pub answer_by : Option ℕ → Bool → Result (Unit {0}) Refusal
answer_by (Some i) enough = Err (FaultyNode i)
answer_by None true = Ok tt
answer_by None false = Err AnswersShort

-- what judging a sheet answers, with so many actions and answer cells
abbrev pub judging_answer : {L : Type 0} → (actions cells : ℕ) → List (Node L) → Result (Unit {0}) Refusal
judging_answer actions cells ns = answer_by (first_fault actions ns) (nat_le (length ns) cells)

module _ {L : Type 0} (below : L → L → Bool) (m : Meaning L) where
  -- the test of Satisfies, which looks at the present states only
  unfoldable pub holds : ℕ → Formula L → Bool
  holds p top = true
  holds p bottom = false
  holds p (labelled l) = below l (m.label p)
  holds p (both f g) = holds p f && holds p g
  holds p (either f g) = holds p f || holds p g
  holds p (diamond a f) = some_of m.states (λ t. m.moves p a t && holds t f)
  holds p (box a f) = not (m.marks p a) && every m.states (λ t. not (m.moves p a t) || holds t f)

  -- the set of the present states that satisfy a formula
  unfoldable pub satisfying : Formula L → ℕ
  satisfying f = set_of 64 (λ p. nat_lt p m.states && holds p f)

  -- the answer sheet with the set of each node's formula; cells past the nodes are kept
  unfoldable pub judged : List (Node L) → List ℕ → List ℕ
  judged ns cells = map satisfying (standing ns) ++ drop (length ns) cells

  -- the answer sheet after an answer: a refusal keeps it
  abbrev pub sheet_after : Result (Unit {0}) Refusal → List (Node L) → List ℕ → List ℕ
  sheet_after (Ok u) ns cells = judged ns cells
  sheet_after (Err e) ns cells = cells

  -- each node's cell has the present states that satisfy the formula that the node stands for
  abbrev pub Judges : List (Node L) → List ℕ → Type 0
  Judges ns cells =
      (i p : ℕ) → i < length ns → p < m.states
      → Decides (has (slice_index cells i) p) (Satisfies below m p (slice_index_or (standing ns) i bottom))
