-- How a call tells what the call behind it answers: a number as its result, and values in places. A place that nothing is put
-- into, as where a call is refused, is as it was before.
use Rattle.std.specs.Prelude.{◌≡◌}
use Rattle.octets.specs.Prelude.{List, ℕ}
use Rattle.octets.specs.Outcome.{Outcome, number_of, placed, itself}
use Rattle.guest_messages.specs.Writer.{written}
use Rattle.guest_messages.specs.Reader.{Reading, status, status_and_flags}

-- of what an ack says: its status; and the flags, where there are any
abbrev pub status_told : Reading → ℕ → ℕ
status_told (status st) before = st
status_told (status_and_flags st flags) before = st

abbrev pub flags_told : Reading → ℕ → ℕ
flags_told (status st) before = before
flags_told (status_and_flags st flags) before = flags

-- a call of the writer for a message, or its refusal: the number r, the octets that the buffer is left with, and the length
pub record Writes (message : Outcome (List ℕ)) (buffer : List ℕ) (before r : ℕ) (left : List ℕ) (length : ℕ) : Type 0 where
  pub number : r ≡ number_of (written message buffer).answer
  pub octets : left ≡ (written message buffer).buffer
  pub place : length ≡ placed itself (written message buffer).answer before
