-- Strike cells by pair, and what the opening and each round make of them.
use Rattle.std.specs.Prelude.{ℕ, zero, suc, ◌+◌, ◌<◌, ◌≤◌, Bool, cond, ◌&&◌, is_some, Some, None, Option, nat_le, nat_lt}
use Rattle.systems.specs.Meaning.{Meaning}
use Rattle.systems.specs.Sets.{count}
use Rattle.preorder.specs.Prebisimulation.{Relation}
use Rattle.preorder.specs.Reason.{Reason, reason}

-- The round that struck a pair, and the reason. An unstruck cell has round 65,535 and zeros.
pub record Cell : Type 0 where
  pub round : ℕ
  pub kind : ℕ
  pub action : ℕ
  pub target : ℕ

abbrev pub blank : Cell
blank = record { round = 65535; kind = 0; action = 0; target = 0 }

-- cells by pair: a first state, then a second state
abbrev pub Cells : Type 0
Cells = ℕ → ℕ → Cell

-- the cell that round k writes for a reason
abbrev pub struck_at : ℕ → Reason → Cell
struck_at k r = record { round = k; kind = r.kind; action = r.action; target = r.target }

-- after k rounds a pair is struck if its round is at most k
abbrev pub Struck : ℕ → Cells → ℕ → ℕ → Type 0
Struck k c p q = (c p q).round ≤ k

abbrev pub Unstruck : ℕ → Cells → ℕ → ℕ → Type 0
Unstruck k c p q = k < (c p q).round

-- how many pairs of the first h first states and the first w second states pass a test
unfoldable pub count_pairs : ℕ → ℕ → Relation → ℕ
count_pairs zero w R = 0
count_pairs (suc h) w R = count_pairs h w R + count w (R h)

module _ {L : Type 0} (below : L → L → Bool) (m n : Meaning L) where
  -- the opening strikes the pairs whose labels fail
  unfoldable pub opened : Cells
  opened p q = cond (below (m.label p) (n.label q)) blank (record { round = 0; kind = 0; action = 0; target = 0 })

  -- the pairs that round k calls related: those whose round is k or more
  unfoldable pub related : ℕ → Cells → Relation
  related k c p q = (nat_lt p m.states && nat_lt q n.states) && nat_le k (c p q).round

  abbrev pub struck_or_kept : ℕ → Cell → Option Reason → Cell
  struck_or_kept k old (Some r) = struck_at k r
  struck_or_kept k old None = old

  -- the reason for which round k strikes a pair, if it does
  unfoldable pub strikes : ℕ → Cells → ℕ → ℕ → Option Reason
  strikes k c p q = cond (related k c p q) (reason m n (related k c) p q) None

  -- what round k makes of the cells: it strikes each related pair that has a reason
  unfoldable pub rounded : ℕ → Cells → Cells
  rounded k c p q = struck_or_kept k (c p q) (strikes k c p q)

  -- the cells after k rounds
  unfoldable pub cells_after : ℕ → Cells
  cells_after zero = opened
  cells_after (suc k) = rounded (suc k) (cells_after k)

  -- how many pairs round k strikes; a round that strikes none is still
  unfoldable pub newly_struck : ℕ → Cells → ℕ
  newly_struck k c = count_pairs m.states n.states (λ p q. is_some (strikes k c p q))
