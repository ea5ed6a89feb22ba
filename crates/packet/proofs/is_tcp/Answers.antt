-- `packet::is_tcp` meets its contract: the octet is looked at only where the packet is long enough.
use Rattle.octets.specs.Prelude.{refl, le-leb, lt-leb}
use Rattle.packet.specs.Packets.{is_tcp}
use Rattle.packet.proofs.is_tcp.Goals as goal

pub returns-then-packet-least : goal.returns-then-packet-least
unfolding is_tcp
returns-then-packet-least c = rw (le-leb _ _ c.if-packet-least.true) refl

pub returns-else-packet-least : goal.returns-else-packet-least
unfolding is_tcp
returns-else-packet-least c = rw (lt-leb _ _ c.if-packet-least.false) refl
