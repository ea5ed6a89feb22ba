-- `ring::receiving::Receiving::receive` meets its contract: reading in two blocks is reading octet by octet.
use Rattle.octets.specs.Prelude.{arith}
use Rattle.ring.specs.Reading.{Incoming, incoming_in}
use Rattle.ring.proofs.Steps.{taken-most, received-blocks}
use Rattle.ring.proofs.receiving.Receiving.receive.Goals as goal

pub read_payload-more-requires-clause-n_le_area_size : goal.read_payload-more-requires-clause-n_le_area_size
read_payload-more-requires-clause-n_le_area_size c =
    let a = c.args in
    let side : Incoming = incoming_in a.self.now a.header.now a.payload.now in
    let read = c.read_header-some.ensures in
    let header = c.read_header-some.new.header in
    let within = taken-most a.area a.page.now side.cons a.unread side.message header _ read.value read.header_after c.requires.2 in
    (omega arith, within)

pub returns-clause-side_after : goal.returns-clause-side_after
returns-clause-side_after c =
    let a = c.args in
    let side : Incoming = incoming_in a.self.now a.header.now a.payload.now in
    let read = c.read_header-some.ensures in
    let more = c.read_payload-more.ensures in
    received-blocks a.area a.page.now side a.unread c.read_header-some.new.header c.read_payload-more.new.payload _ _ c.requires.2
    read.value read.header_after more.value more.payload_after
