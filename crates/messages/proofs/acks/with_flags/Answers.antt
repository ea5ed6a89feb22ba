-- `messages::acks::with_flags` meets its contract: the octets stored are those of the message.
use Rattle.octets.specs.Prelude.{ap, ◌∙◌}
use Rattle.messages.proofs.AckOctets.{flags_behind, flags-stored}
use Rattle.messages.specs.declared.Ack.{Ack}
use Rattle.std.proofs.Common.{rules}
use Rattle.messages.proofs.acks.with_flags.Goals as goal

pub returns : goal.returns
returns c =
    ap (λ (ack : Ack). flags_behind ack c.args.flags) c.with_status-ack.ensures ∙ flags-stored _ (search rules)
