-- `octets::read_u64` meets its contract: the library's number of eight octets is the number by its definition.
use Rattle.octets.specs.Prelude.{arith}
use Rattle.octets.proofs.Numbers.{number-eight}
use Rattle.octets.proofs.read_u64.Goals as goal

pub returns : goal.returns
returns c = rw (number-eight c.args.octets.now c.args.at) (omega (arith, c.from_le_bytes.ensures))
