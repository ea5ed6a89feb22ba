-- What the reader of a capture gives, one record after the other.
use Rattle.std.specs.Prelude.{◌≡◌, ◌-◌, Option, None, Some, Result, Ok, Err}
use Rattle.octets.specs.Prelude.{ℕ, length}
use Rattle.capture.specs.Records.{step_at, step_outcome_of}
use Rattle.capture.specs.declared.Record.{Record}
use Rattle.capture.specs.declared.RecordWrong.{RecordWrong}
use Rattle.capture.specs.declared.reader.Reader.{Reader}

-- where the reader is next: behind the record, and at the capture's end where the record is wrong
abbrev pub place_after : Reader → Option (Result Record RecordWrong) → ℕ
place_after s None = s.at
place_after s (Some (Ok r)) = r.end
place_after s (Some (Err e)) = length s.capture.now

-- what stands at the reader's place, and the reader then
pub record Reads (s : Reader) (gives : Option (Result Record RecordWrong)) (t : Reader) : Type 0 where
  pub step : step_outcome_of gives ≡ step_at s.capture.now s.at
  pub same : t.capture ≡ s.capture
  pub place : t.at ≡ place_after s gives

abbrev pub octets_left : Reader → ℕ
octets_left s = length s.capture.now - s.at
