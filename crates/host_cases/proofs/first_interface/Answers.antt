-- `host_cases::first_interface` meets its contract: one queue is not refused, and a new interface with it is good.
use Rattle.octets.specs.Prelude.{sym, subst, arith}
use Rattle.interface.specs.States.{Good, set_up_outcome}
use Rattle.backend.proofs.Goodness.{good-interface}
use Rattle.host_cases.proofs.first_interface.Goals as goal

pub returns : goal.returns
unfolding set_up_outcome
returns c = subst Good (sym c.set_up.ensures.1) (good-interface 1 (omega arith) (omega arith))
