-- The guest's message writer: the four requests, and what it answers and leaves in the output buffer.
use Rattle.std.specs.Prelude.{◌∷◌, ◌++◌, Result}
use Rattle.octets.specs.Prelude.{List, [], cond, ℕ, length, drop, eqb, leb}
use Rattle.octets.specs.Numbers.{octets_of}
use Rattle.octets.specs.Outcome.{Outcome, value, refused, outcome_of}
use Rattle.toeplitz.specs.Hash.{key_length}
use Rattle.toeplitz.specs.Refusals.{key_length_wrong}
use Rattle.messages.specs.Wire.{field_size, message, get_flags_type, set_flags_type, set_key_type, set_mapping_type, all_flags}
use Rattle.messages.specs.Settings.{is_listed}
use Rattle.guest_messages.specs.Refusals.{buffer_too_short, value_not_listed, write_refusal_number}
use Rattle.guest_messages.specs.declared.WriteRefusal.{WriteRefusal}

-- numbers in eight octets each, one after the other
unfoldable pub fields_of : List ℕ → List ℕ
fields_of [] = []
fields_of (x ∷ xs) = octets_of field_size x ++ fields_of xs

-- the message of each request, or the refusal
abbrev pub get_flags_message : Outcome (List ℕ)
get_flags_message = value (message get_flags_type [])

abbrev pub set_flags_message : ℕ → Outcome (List ℕ)
set_flags_message flags = cond (leb flags all_flags) (value (message set_flags_type (octets_of field_size flags))) (refused value_not_listed)

abbrev pub set_key_message : List ℕ → Outcome (List ℕ)
set_key_message key = cond (eqb (length key) key_length) (value (message set_key_type key)) (refused key_length_wrong)

abbrev pub set_mapping_message : List ℕ → Outcome (List ℕ)
set_mapping_message entries =
    cond (is_listed (length entries)) (value (message set_mapping_type (fields_of entries))) (refused value_not_listed)

-- what a call of the writer answers, and the octets of the buffer that it leaves
pub record After : Type 0 where
  pub answer : Outcome ℕ
  pub buffer : List ℕ

-- a message goes to the start of the buffer, and the octets behind it stay; a refusal leaves all as it was
unfoldable pub written : Outcome (List ℕ) → List ℕ → After
written (value m) buffer =
    cond (leb (length m) (length buffer))
    (record { answer = value (length m); buffer = m ++ drop (length m) buffer })
    (record { answer = refused buffer_too_short; buffer = buffer })
written (refused k) buffer = record { answer = refused k; buffer = buffer }

-- the number and value that an answer of the writer stands for
abbrev pub written_outcome_of : Result ℕ WriteRefusal → Outcome ℕ
written_outcome_of r = outcome_of write_refusal_number r

abbrev pub after : Result ℕ WriteRefusal → List ℕ → After
after r buffer = record { answer = written_outcome_of r; buffer = buffer }
