-- `steering::at_hash` meets its contract: the hash modulo the entry count is below it.
use Rattle.octets.specs.Prelude.{refl}
use Rattle.steering.specs.Steering.{queue_of}
use Rattle.steering.proofs.at_hash.Goals as goal

pub returns : goal.returns
unfolding queue_of
returns c = refl
