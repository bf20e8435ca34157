-- What stands in bytes: whether they are accepted with a header, and the system that they mean.
use Rattle.std.specs.Prelude.{ℕ, ◌+◌, Bool, false, ◌&&◌, List, Ok, Err, Result, ◌==◌, slice_index}
use Rattle.systems.specs.Meaning.{Meaning}
use Rattle.filing.specs.declared.fault.Fault.{Fault}
use Rattle.filing.specs.declared.header.Header.{Header}
use Rattle.filing.specs.Contents.{Contents, contents, meaning_of}

-- whether the contents are there, and have this header
abbrev pub has_header : {L : Type 0} → Header → Result (Contents L) Fault → Bool
has_header h (Ok c) = h.states == c.header.states && h.actions == c.header.actions && h.start == c.header.start
has_header h (Err f) = false

-- the contents of bytes of the kind that they name themselves, with labels of so many bytes
abbrev pub contents_of : {L : Type 0} → (width : ℕ) (read : List ℕ → L) → List ℕ → ℕ → Result (Contents L) Fault
contents_of width read bytes begin = contents (slice_index bytes (begin + 5)) width read bytes begin

-- the contents, whatever the labels stand for
abbrev pub shape : ℕ → List ℕ → ℕ → Result (Contents (Unit {0})) Fault
shape width = contents_of width (λ bs. tt)

-- a lone state, on one action, with no move
abbrev pub lone : {L : Type 0} → L → Meaning L
lone plain = record {
  states = 1;
  actions = 1;
  start = 0;
  moves = λ p a t. false;
  marks = λ p a. false;
  label = λ p. plain;
}

-- the system that contents mean; refused bytes stand for the lone state
abbrev pub meaning_in : {L : Type 0} → L → Result (Contents L) Fault → Meaning L
meaning_in plain (Ok c) = meaning_of plain c
meaning_in plain (Err f) = lone plain

-- the system that stands in bytes from a place on
abbrev pub meaning_at : {L : Type 0} → L → (read : List ℕ → L) → (width : ℕ) → List ℕ → ℕ → Meaning L
meaning_at plain read width bytes begin = meaning_in plain (contents_of width read bytes begin)
