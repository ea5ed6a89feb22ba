-- A stream of octets: the message that it begins with, and a message read so far as the octets that were read.
use Rattle.std.specs.Prelude.{◌≡◌, ◌-◌}
use Rattle.octets.specs.Prelude.{List, Bool, cond, ℕ, length, take, drop}
use Rattle.messages.specs.Wire.{header_size, max_payload}
use Rattle.ring.specs.Reading.{message_length, is_whole, Message}

-- whether a stream begins with a whole message, that message, and what is behind it
abbrev pub begins_whole : List ℕ → Bool
begins_whole xs = is_whole xs (length xs)

abbrev pub first_message : List ℕ → List ℕ
first_message xs = take (message_length xs) xs

abbrev pub behind_first : List ℕ → List ℕ
behind_first xs = drop (message_length xs) xs

-- what is read of a stream before the next message begins: the first message where it is whole, else all there is
unfoldable pub present_part : List ℕ → List ℕ
present_part xs = cond (begins_whole xs) (first_message xs) xs

-- the message m is what has been read once the octets xs were: all of them are counted, the first 8 are its header, and
-- the next ones, up to 1,024, stand at the start of its buffer
pub record Holding (m : Message) (xs : List ℕ) : Type 0 where
  pub count : m.taken ≡ length xs
  pub header-size : length m.header ≡ header_size
  pub payload-size : length m.payload ≡ max_payload
  pub header : take (length xs) m.header ≡ take header_size xs
  pub payload : take (length xs - header_size) m.payload ≡ take max_payload (drop header_size xs)
