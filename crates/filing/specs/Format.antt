-- The records of a file, as its bytes give them.
use Rattle.std.specs.Prelude.{ℕ, ◌+◌, cond, ◌&&◌, List, length, take, drop, Some, None, Ok, Err, Option, Result, ◌==◌, nat_le, nat_lt, slice_index}
use Rattle.filing.specs.declared.fault.Cause.{Cause}
use Rattle.filing.specs.declared.fault.Cause.TheVariants.{UnknownMark, CutShort}
use Rattle.filing.specs.declared.record.Mark.{Mark}
use Rattle.filing.specs.declared.record.Record.{Record}

-- the mark that two bytes spell: `SY`, `MV`, `OP`, `LB`, or none of them
abbrev pub spelled : ℕ → ℕ → Result Mark Cause
spelled x y =
    cond (x == 83 && y == 89) (Ok Mark.System)
    (cond (x == 77 && y == 86) (Ok Mark.Move)
    (cond (x == 79 && y == 80) (Ok Mark.Open)
    (cond (x == 76 && y == 66) (Ok Mark.Label) (Err UnknownMark))))

-- the mark at a place; one byte alone is a mark cut short
abbrev pub mark : List ℕ → ℕ → Result Mark Cause
mark bytes at = cond (nat_lt (length bytes) (at + 2)) (Err CutShort) (spelled (slice_index bytes at) (slice_index bytes (at + 1)))

-- what a place has: nothing more of this system, or a record and where the next begins
abbrev pub Entry : Type 0 → Type 0
Entry L = Result (Option (Record L × ℕ)) Cause

-- a record that takes so many bytes from its place on
abbrev pub whole : {L : Type 0} → List ℕ → ℕ → ℕ → Record L → Entry L
whole bytes at size r = cond (nat_lt (length bytes) (at + size)) (Err CutShort) (Ok (Some (r, at + size)))

module _ {L : Type 0} (width : ℕ) (read : List ℕ → L) (bytes : List ℕ) (at : ℕ) where
  -- `MV` p a p'; `OP` p a; `LB` p and the label, lowest byte first. A system ends before the next `SY` or at the end.
  abbrev pub entry_of : Mark → Entry L
  entry_of Mark.System = Ok None
  entry_of Mark.Move = whole bytes at 5 (Record.Move (slice_index bytes (at + 2)) (slice_index bytes (at + 3)) (slice_index bytes (at + 4)))
  entry_of Mark.Open = whole bytes at 4 (Record.Open (slice_index bytes (at + 2)) (slice_index bytes (at + 3)))
  entry_of Mark.Label = whole bytes at (3 + width) (Record.Label (slice_index bytes (at + 2)) (read (take width (drop (at + 3) bytes))))

  -- the same where there may be no mark
  abbrev pub entry_if : Result Mark Cause → Entry L
  entry_if (Ok m) = entry_of m
  entry_if (Err c) = Err c

  unfoldable pub entry_at : Entry L
  entry_at = cond (nat_le (length bytes) at) (Ok None) (entry_if (mark bytes at))
