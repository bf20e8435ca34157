-- What a file's bytes say from a place on: one system's header and records, or the fault of the earliest faulty record.
use Rattle.std.specs.Prelude.{ℕ, zero, suc, ◌+◌, Bool, true, false, cond, not, ◌&&◌, ◌||◌, List, [], ◌∷◌, length, Some, None, Ok, Err, Option, Result, ◌==◌, nat_le, nat_lt, slice_index}
use Rattle.systems.specs.Meaning.{Meaning}
use Rattle.filing.specs.declared.fault.Cause.{Cause}
use Rattle.filing.specs.declared.fault.Cause.TheVariants.{NoSystem, CutShort, BadSystem, Absent, SecondLabel}
use Rattle.filing.specs.declared.fault.Fault.{Fault}
use Rattle.filing.specs.declared.header.Header.{Header}
use Rattle.filing.specs.declared.record.Mark.{Mark}
use Rattle.filing.specs.declared.record.Record.{Record}
use Rattle.filing.specs.Format.{Entry, mark, entry_at}

-- `SY` states, actions, start, label code: 1 to 64 states, 1 to 32 actions, a start that is present, the code of the kind filed
abbrev pub is_system : Result Mark Cause → Bool
is_system (Ok Mark.System) = true
is_system (Ok Mark.Move) = false
is_system (Ok Mark.Open) = false
is_system (Ok Mark.Label) = false
is_system (Err c) = false

abbrev pub in_bounds : ℕ → ℕ → ℕ → ℕ → ℕ → Bool
in_bounds kind states actions start code =
    (nat_le 1 states && nat_le states 64) && (nat_le 1 actions && nat_le actions 32) && nat_lt start states && (nat_le code 1 && code == kind)

abbrev pub header_of : ℕ → ℕ → ℕ → ℕ → ℕ → Result Header Cause
header_of kind states actions start code =
    cond (in_bounds kind states actions start code) (Ok (record { states = states; actions = actions; start = start })) (Err BadSystem)

unfoldable pub header_at : ℕ → List ℕ → ℕ → Result Header Cause
header_at kind bytes at =
    cond (not (is_system (mark bytes at))) (Err NoSystem)
    (cond (nat_lt (length bytes) (at + 6)) (Err CutShort)
    (header_of kind (slice_index bytes (at + 2)) (slice_index bytes (at + 3)) (slice_index bytes (at + 4)) (slice_index bytes (at + 5))))

-- what one record says: a move, a mark, a label
module _ {L : Type 0} where
  abbrev pub says_move : Record L → ℕ → ℕ → ℕ → Bool
  says_move (Record.Move x y z) p a t = (x == p && y == a) && t == z
  says_move (Record.Open x y) p a t = false
  says_move (Record.Label x l) p a t = false

  abbrev pub says_mark : Record L → ℕ → ℕ → Bool
  says_mark (Record.Move x y z) p a = false
  says_mark (Record.Open x y) p a = x == p && a == y
  says_mark (Record.Label x l) p a = false

  abbrev pub says_label : Record L → ℕ → Bool
  says_label (Record.Move x y z) p = false
  says_label (Record.Open x y) p = false
  says_label (Record.Label x l) p = p == x

  -- the label that a record gives to p, or else the one at hand
  abbrev pub label_or : Record L → ℕ → L → L
  label_or (Record.Move x y z) p other = other
  label_or (Record.Open x y) p other = other
  label_or (Record.Label x l) p other = cond (p == x) l other

  -- what records say together; a state without a label has the plain one
  abbrev pub move_in : List (Record L) → ℕ → ℕ → ℕ → Bool
  move_in [] p a t = false
  move_in (r ∷ rs) p a t = move_in rs p a t || says_move r p a t

  abbrev pub mark_in : List (Record L) → ℕ → ℕ → Bool
  mark_in [] p a = false
  mark_in (r ∷ rs) p a = mark_in rs p a || says_mark r p a

  abbrev pub labelled_in : List (Record L) → ℕ → Bool
  labelled_in [] p = false
  labelled_in (r ∷ rs) p = labelled_in rs p || says_label r p

  abbrev pub label_in : L → List (Record L) → ℕ → L
  label_in plain [] p = plain
  label_in plain (r ∷ rs) p = label_or r p (label_in plain rs p)

  -- why a record cannot stand where some states are labelled already: an absent state or action, or a second label
  abbrev pub objection : Header → (ℕ → Bool) → Record L → Option Cause
  objection h labelled (Record.Move p a t) = cond (nat_lt p h.states && nat_lt a h.actions && nat_lt t h.states) None (Some Absent)
  objection h labelled (Record.Open p a) = cond (nat_lt p h.states && nat_lt a h.actions) None (Some Absent)
  objection h labelled (Record.Label p l) = cond (nat_lt p h.states) (cond (labelled p) (Some SecondLabel) None) (Some Absent)

-- the records of a system, the latest first, and where it ends
abbrev pub Outcome : Type 0 → Type 0
Outcome L = Result (List (Record L) × ℕ) Fault

module _ {L : Type 0} (go : List (Record L) → ℕ → Outcome L) (h : Header) (earlier : List (Record L)) (at : ℕ) where
  abbrev pub accept : Record L × ℕ → Option Cause → Outcome L
  accept e None = go (e.0 ∷ earlier) e.1
  accept e (Some c) = Err (record { cause = c; byte = at })

  abbrev pub proceed : Entry L → Outcome L
  proceed (Err c) = Err (record { cause = c; byte = at })
  proceed (Ok None) = Ok (earlier, at)
  proceed (Ok (Some e)) = accept e (objection h (labelled_in earlier) e.0)

-- Going through the records from a place on, with the earlier ones at hand. The first argument bounds how many there are:
-- the number of the bytes is enough.
unfoldable pub records_from : {L : Type 0} → ℕ → (width : ℕ) (read : List ℕ → L) → List ℕ → Header → List (Record L) → ℕ → Outcome L
records_from zero width read bytes h earlier at = Ok (earlier, at)
records_from (suc n) width read bytes h earlier at =
    proceed (records_from n width read bytes h) h earlier at (entry_at width read bytes at)

pub record Contents (L : Type 0) : Type 0 where
  pub header : Header
  pub records : List (Record L)
  pub end : ℕ

abbrev pub with_header : {L : Type 0} → Header → Outcome L → Result (Contents L) Fault
with_header h (Ok o) = Ok (record { header = h; records = o.0; end = o.1 })
with_header h (Err f) = Err f

-- the whole of filing, from where it begins
module _ {L : Type 0} (kind width : ℕ) (read : List ℕ → L) (bytes : List ℕ) (begin : ℕ) where
  abbrev pub contents_after : Result Header Cause → Result (Contents L) Fault
  contents_after (Err c) = Err (record { cause = c; byte = begin })
  contents_after (Ok h) = with_header h (records_from (length bytes) width read bytes h [] (begin + 6))

  unfoldable pub contents : Result (Contents L) Fault
  contents = contents_after (header_at kind bytes begin)

-- The system that a file's contents mean. An absent state has the start's label.
abbrev pub meaning_of : {L : Type 0} → L → Contents L → Meaning L
meaning_of plain c = record {
  states = c.header.states;
  actions = c.header.actions;
  start = c.header.start;
  moves = move_in c.records;
  marks = mark_in c.records;
  label = λ p. label_in plain c.records (cond (nat_lt p c.header.states) p c.header.start);
}
