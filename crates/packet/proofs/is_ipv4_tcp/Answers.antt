-- `packet::is_ipv4_tcp` meets its contract: the fragment field is looked at only where a TCP packet is long enough for it.
use Rattle.octets.specs.Prelude.{sym, ap, ◌∙◌, not, arith}
use Rattle.packet.proofs.Theorems.{tcp-long}
use Rattle.packet.proofs.Looks.{tcp-unless-fragment, not-tcp}
use Rattle.packet.proofs.is_ipv4_tcp.Goals as goal

pub is_fragment-requires : goal.is_fragment-requires
is_fragment-requires c =
    let long = tcp-long _ _ _ (sym c.is_tcp.ensures ∙ c.if-is_tcp.true) in
    omega (arith, long)

pub returns-then-is_tcp : goal.returns-then-is_tcp
returns-then-is_tcp c =
    let p = c.args.packet.now in
    ap not c.is_fragment.ensures ∙ tcp-unless-fragment p (sym c.is_tcp.ensures ∙ c.if-is_tcp.true)

pub returns-else-is_tcp : goal.returns-else-is_tcp
returns-else-is_tcp c =
    let p = c.args.packet.now in
    c.if-is_tcp.false ∙ not-tcp p (sym c.is_tcp.ensures ∙ c.if-is_tcp.false)
