use Rattle.std.proofs.Common.{◌≡◌, ℕ, ◌<◌, ◌≤◌, get_or, cond, bit_or}
use Rattle.systems.specs.Sets.{has}
use Rattle.views.proofs.closure.pass.Given as goal

abbrev pub invariant-loop-row : goal.invariant-loop-row
invariant-loop-row l =
    record {
      done : (p : ℕ) → p < l.row-index → get_or l.row-items p 0 ≡ cond (has (get_or l.initial.row-items p 0) l.k) (bit_or (get_or l.initial.row-items p 0) l.via) (get_or l.initial.row-items p 0);
      left : (p : ℕ) → l.row-index ≤ p → get_or l.row-items p 0 ≡ get_or l.initial.row-items p 0;
    }
