-- `text::Text::push_hex` meets its contract: `io::hex` writes eight digits, which hold any 32-bit number.
use Rattle.octets.specs.Prelude.{arith, length-append}
use Rattle.text.proofs.Places.{hex_length}
use Rattle.text.proofs.Text.push_hex.Goals as goal

pub push_octets-requires : goal.push_octets-requires
push_octets-requires c = omega (arith, hex_length c.hex-k.new.out _ _ (omega arith) c.hex-k.ensures.len)

pub returns-clause-length_bound : goal.returns-clause-length_bound
returns-clause-length_bound c =
    rw (c.push_octets.ensures, length-append) (omega (arith, hex_length c.hex-k.new.out _ _ (omega arith) c.hex-k.ensures.len))
