-- `packet::is_ipv6` meets its contract: the octet is looked at only where the packet is long enough.
use Rattle.octets.specs.Prelude.{refl, ◌≤◌, ◌<◌, arith, length, le-leb, lt-leb}
use Rattle.packet.specs.Packets.{is_ipv6}
use Rattle.packet.proofs.is_ipv6.Goals as goal

pub returns-then-packet-ge-IPV6_LEAST : goal.returns-then-packet-ge-IPV6_LEAST
unfolding is_ipv6
returns-then-packet-ge-IPV6_LEAST c =
    let long : 40 ≤ length c.args.packet.now = omega (arith, c.if-packet-ge-IPV6_LEAST.true) in
    rw (le-leb _ _ long) refl

pub returns-else-packet-ge-IPV6_LEAST : goal.returns-else-packet-ge-IPV6_LEAST
unfolding is_ipv6
returns-else-packet-ge-IPV6_LEAST c =
    let short : length c.args.packet.now < 40 = omega (arith, c.if-packet-ge-IPV6_LEAST.false) in
    rw (lt-leb _ _ short) refl
