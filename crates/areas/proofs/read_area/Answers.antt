-- `areas::read_area` meets its contract: the buffer is filled from one run of the page, or from two.
use Rattle.octets.specs.Prelude.{refl, sym, ◌∙◌, ℕ, ◌-◌, ◌%◌, arith, length}
use Rattle.page.specs.Page.{area_size}
use Rattle.page.proofs.Places.{octets-run, read-parts}
use Rattle.areas.proofs.read_area.Goals as goal

pub returns-then-n-room : goal.returns-then-n-room
returns-then-n-room c =
    c.read_run.ensures
    ∙ sym (octets-run c.args.area c.args.page.now c.args.count (length c.args.into.now) (omega arith) c.requires.0)

pub returns-else-n-room : goal.returns-else-n-room
returns-else-n-room c =
    let room : ℕ = area_size - c.args.count % area_size in
    read-parts c.args.area c.args.page.now c.args.into.now _ c.requires.0 c.args.count room (room - 0)
    (omega arith) refl (omega arith) c.requires.1 c.read_run-else-n-room.ensures _ c.read_run-else-n-room-2.ensures
