-- The present message, and octets of an area read into it. A reading side is that of either end.
use Rattle.std.specs.Prelude.{◌≡◌, ◌∷◌, ◌+◌, ◌-◌, ◌^◌, ◌<◌}
use Rattle.octets.specs.Prelude.{List, [], Bool, false, cond, ℕ, length, set, replicate, leb, ltb}
use Rattle.messages.specs.Wire.{header_size, max_payload, size_in}
use Rattle.page.specs.Page.{advanced, octets_in}
use Rattle.ring.specs.declared.receiving.Receiving.{Receiving}

-- what has been read of a message: its header, the first octets of its payload, and how many octets in all
pub record Message : Type 0 where
  pub header : List ℕ
  pub payload : List ℕ
  pub taken : ℕ

-- a reading side: the present message, and the count of octets read
pub record Incoming : Type 0 where
  pub message : Message
  pub cons : ℕ

-- the reading side by its parts
abbrev pub incoming_of : List ℕ → List ℕ → ℕ → ℕ → Incoming
incoming_of header payload taken cons =
    record { message = record { header = header; payload = payload; taken = taken }; cons = cons }

-- the reading side that a struct holds, with header and payload of the message, which stand elsewhere
abbrev pub incoming_in : Receiving → List ℕ → List ℕ → Incoming
incoming_in s header payload = incoming_of header payload s.taken s.cons

-- the length of the message with this header, and whether all its octets are there. A part of a header cannot meet this
abbrev pub message_length : List ℕ → ℕ
message_length header = header_size + size_in header

abbrev pub is_whole : List ℕ → ℕ → Bool
is_whole header taken = leb (message_length header) taken

abbrev pub whole : Message → Bool
whole m = is_whole m.header m.taken

-- the message with one octet more: of its header, or of its payload, of which those that have no place are counted and
-- dropped (`set` past the end of a list leaves it). The host has places for the first 1,024
unfoldable pub with_octet : Message → ℕ → Message
with_octet m x =
    cond (ltb m.taken header_size)
    (record { header = set m.header m.taken x; payload = m.payload; taken = m.taken + 1 })
    (record { header = m.header; payload = set m.payload (m.taken - header_size) x; taken = m.taken + 1 })

-- the message with octets of the list, until it is whole or none is left
unfoldable pub received : List ℕ → Message → Message
received [] m = m
received (x ∷ xs) m = cond (whole m) m (received xs (with_octet m x))

-- the reading side with the message m, and as many octets more read as m has more
abbrev pub reading : Incoming → Message → Incoming
reading i m = record { message = m; cons = advanced i.cons (m.taken - i.message.taken) }

-- the reading side once the present message has been read, of which n octets stand unread in the area at `area`
unfoldable pub received_from : ℕ → List ℕ → Incoming → ℕ → Incoming
received_from area page i n = reading i (received (octets_in area page i.cons n) i.message)

-- the host's at setup: no octet read, and the buffer filled with zeros
abbrev pub incoming_at_setup : Incoming
incoming_at_setup =
    record {
      message = record { header = replicate header_size 0; payload = replicate max_payload 0; taken = 0 };
      cons = 0;
    }

-- what holds of a reading side between calls, which keeps so many octets of a payload: the message is not whole
pub record GoodIncoming (kept : ℕ) (i : Incoming) : Type 0 where
  pub header : length i.message.header ≡ header_size
  pub payload : length i.message.payload ≡ kept
  pub waiting : whole i.message ≡ false
  pub count : i.cons < 2 ^ 32
