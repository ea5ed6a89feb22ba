-- `octets::read_u32` meets its contract: the library's number of four octets is the number by its definition.
use Rattle.octets.specs.Prelude.{arith}
use Rattle.octets.proofs.Numbers.{number-four}
use Rattle.octets.proofs.read_u32.Goals as goal

pub returns : goal.returns
returns c = rw (number-four c.args.octets.now c.args.at) (omega (arith, c.from_le_bytes.ensures))
