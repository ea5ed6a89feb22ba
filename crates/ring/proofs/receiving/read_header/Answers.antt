-- `ring::receiving::read_header` meets its contract: the part that is lent holds all octets that are missing and there.
use Rattle.octets.specs.Prelude.{refl, sym, arith}
use Rattle.ring.proofs.Steps.{none-set, part-read}
use Rattle.ring.proofs.receiving.read_header.Goals as goal

pub returns-then-taken-ge-HEADER_OCTETS-clause-header_after : goal.returns-then-taken-ge-HEADER_OCTETS-clause-header_after
returns-then-taken-ge-HEADER_OCTETS-clause-header_after c =
    let a = c.args in
    sym (none-set a.area a.page.now a.count a.header.now a.taken 0 refl)

pub returns-clause-header_after : goal.returns-clause-header_after
returns-clause-header_after c =
    let a = c.args in
    let k = c.min-k.result in
    part-read a.area a.page.now a.header.now _ a.count a.taken k k c.read_area.ensures (omega arith) (omega arith)
