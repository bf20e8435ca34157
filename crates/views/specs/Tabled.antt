-- Systems held as sheets: what is written, what the sheets then hold, and what sheets of any content mean.
use Rattle.std.specs.Prelude.{◌≡◌, ℕ, ◌+◌, ◌*◌, ◌/◌, ◌%◌, ◌<◌, Bool, true, false, cond, ◌&&◌, List, length, Result, MatchResult, nat_le, nat_lt, slice_index, slice_index_or}
use Rattle.systems.specs.Cells.{written}
use Rattle.systems.specs.Meaning.{Meaning, Bounded}
use Rattle.systems.specs.Sets.{has, set_of}
use Rattle.views.specs.declared.refusal.Refusal.{Refusal}
use Rattle.views.specs.declared.refusal.Refusal.TheVariants.{SheetShort}
use Rattle.views.specs.declared.sheets.Shape.{Shape}
use Rattle.views.specs.declared.tabled.Tabled.{Tabled}

-- whether sheets of these lengths have a cell of moves for each state and action, and of marks and of labels for each state
abbrev pub room : ℕ → ℕ → ℕ → ℕ → ℕ → Bool
room states actions moves marks labels = nat_le (states * actions) moves && (nat_le states marks && nat_le states labels)

-- Three sheets hold the tables of m, and the shape its counts and start. Cell p * actions + a of the first is the set of
-- the states that p reaches by a; cell p of the second is the set of the actions that p is open on.
pub record Tables {L : Type 0} (m : Meaning L) (plain : L) (s : Shape) (moves marks : List ℕ) (labels : List L) : Type 0 where
  pub states : s.states ≡ m.states
  pub actions : s.actions ≡ m.actions
  pub start : s.start ≡ m.start
  pub moves_held : (p a : ℕ) → p < m.states → a < m.actions → slice_index moves (p * m.actions + a) ≡ set_of 64 (m.moves p a)
  pub marks_held : (p : ℕ) → p < m.states → slice_index marks p ≡ set_of 32 (m.marks p)
  pub labels_held : (p : ℕ) → p < m.states → slice_index_or labels p plain ≡ m.label p

-- the three sheets, written for m over what they held
unfoldable pub move_sheet : {L : Type 0} → Meaning L → List ℕ → List ℕ
move_sheet m = written (m.states * m.actions) (λ k. set_of 64 (m.moves (k / m.actions) (k % m.actions)))

unfoldable pub mark_sheet : {L : Type 0} → Meaning L → List ℕ → List ℕ
mark_sheet m = written m.states (λ p. set_of 32 (m.marks p))

unfoldable pub label_sheet : {L : Type 0} → Meaning L → List L → List L
label_sheet m = written m.states m.label

-- What tabulating m answers, and the sheets after: where one is short it is refused, and they are as they were.
module _ {L : Type 0} (m : Meaning L) (plain : L) (moves marks : List ℕ) (labels : List L) where
  abbrev fits : Bool
  fits = room m.states m.actions (length moves) (length marks) (length labels)

  pub record Tabulates (r : Result Shape Refusal) (moves' marks' : List ℕ) (labels' : List L) : Type 0 where
    pub answer : MatchResult r (λ s. (fits ≡ true) × Tables m plain s moves' marks' labels') (λ e. (fits ≡ false) × (e ≡ SheetShort))
    pub moves_after : moves' ≡ cond fits (move_sheet m moves) moves
    pub marks_after : marks' ≡ cond fits (mark_sheet m marks) marks
    pub labels_after : labels' ≡ cond fits (label_sheet m labels) labels

-- The system that sheets of any content stand for: what they hold of absent states and actions does not count.
abbrev pub by_sheets : {L : Type 0} → L → Shape → List ℕ → List ℕ → List L → Meaning L
by_sheets plain s moves marks labels = record {
  states = s.states;
  actions = s.actions;
  start = s.start;
  moves = λ p a t. (nat_lt p s.states && nat_lt a s.actions) && (nat_lt t s.states && has (slice_index moves (p * s.actions + a)) t);
  marks = λ p a. nat_lt p s.states && (nat_lt a s.actions && has (slice_index marks p) a);
  label = λ p. slice_index_or labels (cond (nat_lt p s.states) p s.start) plain;
}

-- The tabled system t stands over just this shape and these sheets.
pub record Over {L : Type 0} (plain : L) (shape : Shape) (moves marks : List ℕ) (labels : List L) (t : Tabled L) : Type 0 where
  pub shape_held : t.shape ≡ shape
  pub moves_held : t.moves.now ≡ moves
  pub marks_held : t.marks.now ≡ marks
  pub labels_held : t.labels.now ≡ labels
  -- over the tables of a system m it means m itself
  pub faithful : (m : Meaning L) → Bounded m → Tables m plain shape moves marks labels → by_sheets plain t.shape t.moves.now t.marks.now t.labels.now ≡ m
