-- The words of the steps that the calls are made of.
use Rattle.std.specs.Prelude.{ℕ, zero, suc, Bool, cond, not, ◌&&◌, List, is_some, Some, None, Option, nat_le, nat_lt, slice_index, slice_set}
use Rattle.std.specs.Option.{option_map, unwrap_or}
use Rattle.systems.specs.Meaning.{Meaning}
use Rattle.systems.specs.Sets.{has, set_of}
use Rattle.preorder.specs.Prebisimulation.{Relation}
use Rattle.preorder.specs.Reason.{Reason as Why, first, given, reason, unanswered}
use Rattle.preorder.specs.Strikes.{Cells, opened, struck_at}
use Rattle.comparison.specs.declared.reasons.Kind.{Kind}
use Rattle.comparison.specs.declared.reasons.Kind.TheVariants.{Forth, Mark, Back}
use Rattle.comparison.specs.declared.reasons.Reason.{Reason}
use Rattle.comparison.specs.declared.strike.Strike.{Strike}
use Rattle.comparison.specs.Grid.{place}
use Rattle.comparison.specs.Sheet.{strike_of}

-- the first cells of row p, so many of them, replaced by f 0, f 1, ..
unfoldable pub row_filled : {X : Type 0} → ℕ → ℕ → ℕ → (ℕ → X) → List X → List X
row_filled width p zero f xs = xs
row_filled width p (suc q) f xs = slice_set (row_filled width p q f xs) (place width p q) (f q)

-- the cell that the opening writes for a pair
unfoldable pub opened_strike : {L : Type 0} → (L → L → Bool) → Meaning L → Meaning L → ℕ → ℕ → Strike
opened_strike below m n p q = strike_of (opened below m n p q)

-- ---- a relation as masks

-- the relation that a list of masks stands for: p is related to the members of the p-th mask
unfoldable pub relation_of : List ℕ → Relation
relation_of masks p q = has (slice_index masks p) q

-- a relation turned round
unfoldable pub turned : Relation → Relation
turned R q p = R p q

-- the mask of p: the numbers below the width that p is related to
unfoldable pub mask_of : ℕ → Relation → ℕ → ℕ
mask_of width R p = set_of 64 (λ q. nat_lt q width && R p q)

-- whether a cell's round is k or more
unfoldable pub from_round : ℕ → Cells → Relation
from_round k c p q = nat_le k (c p q).round

-- the pairs of a grid that round k calls related
unfoldable pub related_in : ℕ → ℕ → ℕ → Cells → Relation
related_in height width k c p q = (nat_lt p height && nat_lt q width) && from_round k c p q

-- ---- reasons

-- the lowest number below w that passes a test
unfoldable pub lowest : ℕ → (ℕ → Bool) → Option ℕ
lowest w f = first w (λ i. given (f i) i)

-- the number of a kind of reason
abbrev pub kind_number : Kind → ℕ
kind_number Forth = 1
kind_number Mark = 2
kind_number Back = 3

-- what a reason that the code found is
abbrev pub why : Reason → Why
why r = record { kind = kind_number r.kind; action = r.action; target = r.target }

abbrev pub found : Option Reason → Option Why
found o = option_map why o

-- p and q are closed on a, and q moves by a to a state that p does not answer
unfoldable pub unmatched : {L : Type 0} → Meaning L → Meaning L → Relation → ℕ → ℕ → ℕ → ℕ → Bool
unmatched m n R p q a u = (not (m.marks p a) && not (n.marks q a)) && unanswered n m (turned R) q p a u

-- ---- strikes over a relation

-- the strike that round k makes for a reason
unfoldable pub strike_for : ℕ → Option Why → Option Strike
strike_for k (Some r) = Some (strike_of (struck_at k r))
strike_for k None = None

module _ {L : Type 0} (m n : Meaning L) (R : Relation) where
  -- the reason for which a pair is struck, if it is
  unfoldable pub strikes_over : ℕ → ℕ → Option Why
  strikes_over p q = cond (R p q) (reason m n R p q) None

  unfoldable pub struck_over : Relation
  struck_over p q = is_some (strikes_over p q)

  -- a pair's cell after round k
  unfoldable pub strike_over : ℕ → Cells → ℕ → ℕ → Strike
  strike_over k c p q = unwrap_or (strike_for k (strikes_over p q)) (strike_of (c p q))
