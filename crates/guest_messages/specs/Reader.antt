-- The guest's ack reader.
use Rattle.std.specs.Prelude.{◌++◌, ◌&&◌, ◌+◌, Result, Ok, Err}
use Rattle.octets.specs.Prelude.{List, Bool, true, cond, ℕ, length, eqb, leb}
use Rattle.octets.specs.Numbers.{octets_of}
use Rattle.octets.specs.Outcome.{Outcome, value, refused}
use Rattle.messages.specs.Wire.{header_size, field_size, message, type_in, size_in, status_in, ack_flags_in, ack_type}
use Rattle.messages.specs.Wire.{success, not_supported, buffer_overflow, all_flags}
use Rattle.messages.specs.Requests.{Request, get_flags, set_flags, set_key, set_mapping, none, request_of, carries_flags}
use Rattle.guest_messages.specs.Refusals.{not_an_ack}
use Rattle.guest_messages.specs.declared.AckRead.{AckRead}
use Rattle.guest_messages.specs.declared.AckRead.TheVariants.{Status, Flags}
use Rattle.guest_messages.specs.declared.NotAnAck.{NotAnAck}

-- what an ack says: a status, and with it any flags
pub data Reading : Type 0 where
  status : ℕ → Reading
  status_and_flags : ℕ → ℕ → Reading

-- the statuses that a request can get: at most 3; only 1 for a type outside 2 to 5
unfoldable pub status_allowed : Request → ℕ → Bool
status_allowed get_flags st = leb st buffer_overflow
status_allowed set_flags st = leb st buffer_overflow
status_allowed set_key st = leb st buffer_overflow
status_allowed set_mapping st = leb st buffer_overflow
status_allowed none st = eqb st not_supported

-- the size of the ack with a status: 16 where it carries flags, else 8
abbrev pub ack_size : Request → ℕ → ℕ
ack_size r st = cond (carries_flags r st) (field_size + field_size) field_size

-- flags, where there are any, are at most 15
abbrev pub flags_allowed : Request → List ℕ → Bool
flags_allowed r m = cond (carries_flags r (status_in m)) (leb (ack_flags_in m) all_flags) true

-- document 01's ack to a request: as long as its size says, of type 1, with a status that the request can get, and with
-- the size and flags that go with the status
unfoldable pub is_ack_to : Request → List ℕ → Bool
is_ack_to r m =
    eqb (length m) (header_size + size_in m)
    && (eqb (type_in m) ack_type
    && (status_allowed r (status_in m) && (eqb (size_in m) (ack_size r (status_in m)) && flags_allowed r m)))

-- what it says
abbrev pub reading_of : Request → List ℕ → Reading
reading_of r m = cond (carries_flags r (status_in m)) (status_and_flags (status_in m) (ack_flags_in m)) (status (status_in m))

-- what the reader answers, told the request's type t
unfoldable pub read_ack : ℕ → List ℕ → Outcome Reading
read_ack t m = cond (is_ack_to (request_of t) m) (value (reading_of (request_of t) m)) (refused not_an_ack)

-- what each case of the enum says, and the number and values that an answer of the reader stands for
abbrev pub reading_in : AckRead → Reading
reading_in (Status st) = status st
reading_in (Flags flags) = status_and_flags success flags

abbrev pub ack_outcome_of : Result AckRead NotAnAck → Outcome Reading
ack_outcome_of (Ok ack) = value (reading_in ack)
ack_outcome_of (Err _) = refused not_an_ack

-- what the host's ack to a request says, by its status
abbrev pub answer_to : Request → ℕ → Reading
answer_to r st = cond (carries_flags r st) (status_and_flags st all_flags) (status st)

-- the one message that says this
abbrev pub encoded : Reading → List ℕ
encoded (status st) = message ack_type (octets_of field_size st)
encoded (status_and_flags st flags) = message ack_type (octets_of field_size st ++ octets_of field_size flags)
