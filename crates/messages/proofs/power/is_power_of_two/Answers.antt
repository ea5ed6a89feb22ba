-- `messages::power::is_power_of_two` meets its contract: a number of one bit is a power of two.
use Rattle.octets.specs.Prelude.{◌∙◌}
use Rattle.messages.proofs.Powers.{one-bit-told}
use Rattle.messages.proofs.power.is_power_of_two.Goals as goal

pub returns : goal.returns
returns c = c.is_power_of_two.ensures ∙ one-bit-told _
