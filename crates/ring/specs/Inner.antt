-- What the inner functions promise: no part of the public promise.
use Rattle.std.specs.Prelude.{◌-◌}
use Rattle.octets.specs.Prelude.{List, cond, ℕ, min, ltb}
use Rattle.messages.specs.Wire.{header_size}
use Rattle.ring.specs.Reading.{message_length}

-- of n octets, those that go into a header of which `taken` are there
abbrev pub header_moved : ℕ → ℕ → ℕ
header_moved taken n = min (header_size - taken) n

-- of n octets, those that go into the payload, once the header is whole
abbrev pub payload_moved : List ℕ → ℕ → ℕ → ℕ
payload_moved header taken n = cond (ltb taken header_size) 0 (min (message_length header - taken) n)
