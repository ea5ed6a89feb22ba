-- `ring::receiving::read_payload` meets its contract: octets behind those that the part lent holds would change nothing.
use Rattle.octets.specs.Prelude.{refl, sym, ◌-◌, arith}
use Rattle.messages.specs.Wire.{header_size}
use Rattle.page.specs.Page.{octets_in}
use Rattle.ring.proofs.Steps.{none-set, sets-out, part-read}
use Rattle.ring.proofs.receiving.read_payload.Goals as goal

pub returns-then-taken-lt-HEADER_OCTETS-clause-payload_after : goal.returns-then-taken-lt-HEADER_OCTETS-clause-payload_after
returns-then-taken-lt-HEADER_OCTETS-clause-payload_after c =
    let a = c.args in
    sym (none-set a.area a.page.now a.count a.payload.now (a.taken - header_size) 0 refl)

pub returns-then-start-room-clause-payload_after : goal.returns-then-start-room-clause-payload_after
returns-then-start-room-clause-payload_after c =
    let a = c.args in
    part-read a.area a.page.now a.payload.now _ a.count (a.taken - header_size) c.min-kept.result c.min-k.result c.read_area.ensures
    (omega arith) c.min-kept.ensures

pub returns-else-start-room-clause-payload_after : goal.returns-else-start-room-clause-payload_after
returns-else-start-room-clause-payload_after c =
    let a = c.args in
    let read = octets_in a.area a.page.now a.count c.min-k.result in
    sym (sets-out a.payload.now read (a.taken - header_size) (omega arith))
