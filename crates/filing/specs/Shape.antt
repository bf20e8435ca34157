-- Whether bytes are accepted does not depend on what their labels stand for: lemmas below Standing.
use Rattle.std.proofs.Common.{◌≡◌, ℕ, zero, suc, ◌+◌, Bool, true, false, cond, ◌||◌, ltb, leb, List, [], ◌∷◌, map, length, Some, None, Ok, Err, Option, Result, refl, ap, ◌∙◌, ap₂}
use Rattle.filing.specs.declared.fault.Cause.{Cause}
use Rattle.filing.specs.declared.header.Header.{Header}
use Rattle.filing.specs.declared.record.Mark.{Mark}
use Rattle.filing.specs.declared.record.Record.{Record}
use Rattle.filing.specs.Accepted.{has_header}
use Rattle.filing.specs.Contents.{Outcome, accept, proceed, records_from, says_label, labelled_in, objection, with_header, header_at, contents, contents_after}
use Rattle.filing.specs.Format.{Entry, whole, mark, entry_of, entry_if, entry_at}

-- a record, an entry, an outcome, with each label left blank
module _ {L : Type 0} where
  abbrev blank : Record L → Record (Unit {0})
  blank (Record.Move x y z) = Record.Move x y z
  blank (Record.Open x y) = Record.Open x y
  blank (Record.Label x l) = Record.Label x tt

  abbrev blank_entry : Entry L → Entry (Unit {0})
  blank_entry (Err c) = Err c
  blank_entry (Ok None) = Ok None
  blank_entry (Ok (Some e)) = Ok (Some (blank e.0, e.1))

  abbrev blank_outcome : Outcome L → Outcome (Unit {0})
  blank_outcome (Err f) = Err f
  blank_outcome (Ok o) = Ok (map blank o.0, o.1)

  says_blank : (r : Record L) (p : ℕ) → says_label (blank r) p ≡ says_label r p
  says_blank (Record.Move x y z) p = refl
  says_blank (Record.Open x y) p = refl
  says_blank (Record.Label x l) p = refl

  labelled_blank : (rs : List (Record L)) (p : ℕ) → labelled_in (map blank rs) p ≡ labelled_in rs p
  labelled_blank [] p = refl
  labelled_blank (r ∷ rs) p = ap₂ ◌||◌ (labelled_blank rs p) (says_blank r p)

  objection-blank : (h : Header) (rs : List (Record L)) (r : Record L) → objection h (labelled_in (map blank rs)) (blank r) ≡ objection h (labelled_in rs) r
  objection-blank h rs (Record.Move x y z) = refl
  objection-blank h rs (Record.Open x y) = refl
  objection-blank h rs (Record.Label x l) = ap (λ b. cond (ltb x h.states) (cond b (Some Cause.SecondLabel) None) (Some Cause.Absent)) (labelled_blank rs x)

  -- one turn keeps to the same outcome, if the turns after it do
  module _ (h : Header) (earlier : List (Record L)) (at : ℕ) (blanked : List (Record (Unit {0})) → ℕ → Outcome (Unit {0})) (go : List (Record L) → ℕ → Outcome L)
      (same : (rs : List (Record L)) (next : ℕ) → blanked (map blank rs) next ≡ blank_outcome (go rs next)) where
    accept-blank : (e : Record L × ℕ) (o : Option Cause) → accept blanked h (map blank earlier) at (blank e.0, e.1) o ≡ blank_outcome (accept go h earlier at e o)
    accept-blank e None = same (e.0 ∷ earlier) e.1
    accept-blank e (Some c) = refl

    proceed-blank : (x : Entry L) → proceed blanked h (map blank earlier) at (blank_entry x) ≡ blank_outcome (proceed go h earlier at x)
    proceed-blank (Err c) = refl
    proceed-blank (Ok None) = refl
    proceed-blank (Ok (Some e)) = ap (accept blanked h (map blank earlier) at (blank e.0, e.1)) (objection-blank h earlier e.0) ∙ accept-blank e (objection h (labelled_in earlier) e.0)

module _ {L : Type 0} (width : ℕ) (read : List ℕ → L) (bytes : List ℕ) where
  whole-blank : (at size : ℕ) (r : Record L) → whole bytes at size (blank r) ≡ blank_entry (whole bytes at size r)
  whole-blank at size r = go (ltb (length bytes) (at + size))
    where
      go : (b : Bool) → cond b (Err Cause.CutShort) (Ok (Some (blank r, at + size))) ≡ blank_entry (cond b (Err Cause.CutShort) (Ok (Some (r, at + size))))
      go true = refl
      go false = refl

  entry_blank : (at : ℕ) → entry_at width (λ bs. tt) bytes at ≡ blank_entry (entry_at width read bytes at)
  unfolding entry_at
  entry_blank at = go (leb (length bytes) at)
    where
      marked : (m : Mark) → entry_of width (λ bs. tt) bytes at m ≡ blank_entry (entry_of width read bytes at m)
      marked Mark.System = refl
      marked Mark.Move = whole-blank at 5 _
      marked Mark.Open = whole-blank at 4 _
      marked Mark.Label = whole-blank at (3 + width) _

      read_as : (m : Result Mark Cause) → entry_if width (λ bs. tt) bytes at m ≡ blank_entry (entry_if width read bytes at m)
      read_as (Ok m) = marked m
      read_as (Err c) = refl

      go : (b : Bool) → cond b (Ok None) (entry_if width (λ bs. tt) bytes at (mark bytes at)) ≡ blank_entry (cond b (Ok None) (entry_if width read bytes at (mark bytes at)))
      go true = refl
      go false = read_as (mark bytes at)

  records_blank : (h : Header) (n : ℕ) (earlier : List (Record L)) (at : ℕ) → records_from n width (λ bs. tt) bytes h (map blank earlier) at ≡ blank_outcome (records_from n width read bytes h earlier at)
  unfolding records_from
  records_blank h zero earlier at = refl
  records_blank h (suc n) earlier at =
      ap (proceed (records_from n width (λ bs. tt) bytes h) h (map blank earlier) at) (entry_blank at)
      ∙ proceed-blank h earlier at (records_from n width (λ bs. tt) bytes h) (records_from n width read bytes h) (records_blank h n) (entry_at width read bytes at)

  pub header_blank : (kind begin : ℕ) (h : Header) → has_header h (contents {L = Unit {0}} kind width (λ bs. tt) bytes begin) ≡ has_header h (contents kind width read bytes begin)
  unfolding contents
  header_blank kind begin h = go (header_at kind bytes begin)
    where
      with : (k : Header) (o : Outcome L) → has_header h (with_header k (blank_outcome o)) ≡ has_header h (with_header k o)
      with k (Err f) = refl
      with k (Ok o) = refl

      go : (x : Result Header Cause) → has_header h (contents_after {L = Unit {0}} kind width (λ bs. tt) bytes begin x) ≡ has_header h (contents_after kind width read bytes begin x)
      go (Err c) = refl
      go (Ok k) = ap (λ o. has_header h (with_header k o)) (records_blank k (length bytes) [] (begin + 6)) ∙ with k (records_from (length bytes) width read bytes k [] (begin + 6))
