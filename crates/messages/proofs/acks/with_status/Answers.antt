-- `messages::acks::with_status` meets its contract: the octets stored are those of the message.
use Rattle.messages.proofs.AckOctets.{status-stored}
use Rattle.std.proofs.Common.{rules}
use Rattle.messages.proofs.acks.with_status.Goals as goal

pub returns : goal.returns
returns c = status-stored _ (search rules)
