-- The records that can be read from a place on, one after another, whether or not they are accepted.
use Rattle.std.specs.Prelude.{ℕ, zero, suc, List, [], ◌∷◌, length, Some, None, Option}
use Rattle.std.specs.Result.{result_unwrap_or}
use Rattle.filing.specs.declared.record.Record.{Record}
use Rattle.filing.specs.declared.records.Records.{Records}
use Rattle.filing.specs.Format.{entry_at}

module _ {L : Type 0} where
  abbrev pub then_after : (ℕ → List (Record L)) → Option (Record L × ℕ) → List (Record L)
  then_after go None = []
  then_after go (Some e) = e.0 ∷ go e.1

module _ {L : Type 0} (width : ℕ) (read : List ℕ → L) where
  -- the first argument bounds how many there are: the number of the bytes is enough
  unfoldable pub first_records : ℕ → List ℕ → ℕ → List (Record L)
  first_records zero bytes at = []
  first_records (suc n) bytes at = then_after (first_records n bytes) (result_unwrap_or (entry_at width read bytes at) None)

  unfoldable pub records_after : List ℕ → ℕ → List (Record L)
  records_after bytes = first_records (length bytes) bytes

  -- those that a reader has still to give
  abbrev pub left : Records L → List (Record L)
  left s = records_after s.bytes.now s.at
