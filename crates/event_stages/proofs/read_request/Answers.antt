-- `event_stages::read_request` meets its contract: the octets read are counted, and where no octet stands unread, reading would
-- change nothing.
use Rattle.octets.specs.Prelude.{arith}
use Rattle.interface.specs.States.{state_of}
use Rattle.event_stages.proofs.Parts.{reads, reads-none}
use Rattle.event_stages.proofs.read_request.Goals as goal

pub returns-then-unread-gt0 : goal.returns-then-unread-gt0
returns-then-unread-gt0 c = reads (state_of c.args.i.now) _ _ _ c.receive.ensures.side_after

pub returns-else-unread-gt0 : goal.returns-else-unread-gt0
returns-else-unread-gt0 c = reads-none (state_of c.args.i.now) _ _ (omega arith) c.requires.incoming.1
