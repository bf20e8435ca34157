-- What filing answers, and what it leaves in the place that it is given.
use Rattle.std.specs.Prelude.{◌≡◌, ℕ, List, Ok, Err, Result}
use Rattle.systems.specs.declared.label.Label.{Ghosts}
use Rattle.filing.specs.declared.fault.Fault.{Fault}
use Rattle.filing.specs.declared.filed.Filed.{Filed}
use Rattle.filing.specs.Accepted.{meaning_at}
use Rattle.filing.specs.Contents.{Contents, meaning_of}

-- the answer: where the system ends, or the fault
abbrev pub end_of : {L : Type 0} → Result (Contents L) Fault → Result ℕ Fault
end_of (Ok c) = Ok c.end
end_of (Err f) = Err f

module _ {L : Type 0} {g : Ghosts L} (plain : L) (read : List ℕ → L) (bytes : List ℕ) (begin : ℕ) where
  -- a filed system that stands in these bytes, and means what their contents do
  pub record Holds (c : Contents L) (s : Filed L g) : Type 0 where
    pub bytes_are : s.bytes.now ≡ bytes
    pub begin_is : s.begin ≡ begin
    pub meaning_is : meaning_at plain read g.WIDTH s.bytes.now s.begin ≡ meaning_of plain c

  -- the place after filing, by the contents and what it held before: refused, it is as it was
  abbrev pub Leaves : Result (Contents L) Fault → Filed L g → Filed L g → Type 0
  Leaves (Ok c) before after = Holds c after
  Leaves (Err f) before after = after ≡ before
