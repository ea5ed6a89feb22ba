-- the header, the fields so far, and the octets behind them as they were
use Rattle.octets.specs.Prelude.{◌≡◌, ◌++◌, ◌+◌, ◌*◌, length, take, drop}
use Rattle.messages.specs.Wire.{header_size, field_size, header}
use Rattle.guest_messages.specs.Writer.{fields_of}
use Rattle.guest_messages.proofs.writer.write_fields.Given as goal

abbrev pub invariant-loop-k : goal.invariant-loop-k
invariant-loop-k l =
    l.buffer ≡ header l.kind (length l.numbers * field_size) ++ (fields_of (take l.k l.numbers) ++ drop (header_size + l.k * field_size) l.fn.buffer)
