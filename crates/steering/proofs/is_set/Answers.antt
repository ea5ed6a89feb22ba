-- `steering::is_set` meets its contract: the flag is the bit that the shift leaves lowest.
use Rattle.octets.specs.Prelude.{refl}
use Rattle.steering.specs.Steering.{is_set}
use Rattle.steering.proofs.is_set.Goals as goal

pub returns : goal.returns
unfolding is_set
returns c = rw c.from.ensures refl
