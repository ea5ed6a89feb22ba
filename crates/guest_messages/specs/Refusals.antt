-- The refusals of this crate, by document 01's numbers.
use Rattle.octets.specs.Prelude.{ℕ}
use Rattle.toeplitz.specs.Refusals.{key_length_wrong}
use Rattle.guest_messages.specs.declared.WriteRefusal.{WriteRefusal}
use Rattle.guest_messages.specs.declared.WriteRefusal.TheVariants.{KeyLength, Value, Buffer}

-- output buffer shorter than the message
abbrev pub buffer_too_short : ℕ
buffer_too_short = 10

-- flags above 15, or mapping length not a listed one
abbrev pub value_not_listed : ℕ
value_not_listed = 11

-- not an ack to this request
abbrev pub not_an_ack : ℕ
not_an_ack = 12

-- the number that each refusal of the writer stands for
abbrev pub write_refusal_number : WriteRefusal → ℕ
write_refusal_number KeyLength = key_length_wrong
write_refusal_number Value = value_not_listed
write_refusal_number Buffer = buffer_too_short
