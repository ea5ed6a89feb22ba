-- `packet::look` meets its contract: each return has passed the tests of its kind.
use Rattle.octets.specs.Prelude.{sym, ◌∙◌}
use Rattle.packet.proofs.Looks.{found-ipv4-tcp, found-ipv4, found-ipv6-tcp, found-ipv6, found_none}
use Rattle.packet.proofs.look.Goals as goal

pub returns-then-is_ipv4_tcp : goal.returns-then-is_ipv4_tcp
returns-then-is_ipv4_tcp c =
    let four = sym c.is_ipv4.ensures ∙ c.if-is_ipv4.true in
    c.ip.ensures ∙ found-ipv4-tcp _ four (sym c.is_ipv4_tcp.ensures ∙ c.if-is_ipv4_tcp.true)

pub returns-then-is_ipv4 : goal.returns-then-is_ipv4
returns-then-is_ipv4 c =
    let four = sym c.is_ipv4.ensures ∙ c.if-is_ipv4.true in
    c.ip-then-is_ipv4.ensures ∙ found-ipv4 _ four (sym c.is_ipv4_tcp.ensures ∙ c.if-is_ipv4_tcp.false)

pub returns-then-is_tcp : goal.returns-then-is_tcp
returns-then-is_tcp c =
    let not-four = sym c.is_ipv4.ensures ∙ c.if-is_ipv4.false in
    let six = sym c.is_ipv6.ensures ∙ c.if-is_ipv6.true in
    c.ip-then-is_tcp.ensures ∙ found-ipv6-tcp _ not-four six (sym c.is_tcp.ensures ∙ c.if-is_tcp.true)

pub returns-then-is_ipv6 : goal.returns-then-is_ipv6
returns-then-is_ipv6 c =
    let not-four = sym c.is_ipv4.ensures ∙ c.if-is_ipv4.false in
    let six = sym c.is_ipv6.ensures ∙ c.if-is_ipv6.true in
    c.ip-then-is_ipv6.ensures ∙ found-ipv6 _ not-four six (sym c.is_tcp.ensures ∙ c.if-is_tcp.false)

pub returns : goal.returns
returns c =
    let not-four = sym c.is_ipv4.ensures ∙ c.if-is_ipv4.false in
    found_none _ not-four (sym c.is_ipv6.ensures ∙ c.if-is_ipv6.false)
