-- `areas::write_area` meets its contract: the octets are put into one run of the page, or into two.
use Rattle.octets.specs.Prelude.{◌≡◌, refl, sym, ap, ap₂, ◌∙◌, List, ℕ, ◌+◌, ◌-◌, ◌%◌, arith, length, take, drop, length-drop, take_all, sets}
use Rattle.page.specs.Page.{area_size}
use Rattle.page.proofs.Places.{put-run, put-over}
use Rattle.areas.proofs.write_area.Goals as goal

pub returns-then-n-room : goal.returns-then-n-room
returns-then-n-room c =
    let a = c.args in
    c.write_run.ensures ∙ sym (put-run a.area a.from.now a.page.now a.count (omega arith))

pub returns-else-n-room : goal.returns-else-n-room
returns-else-n-room c =
    let area : ℕ = c.args.area in
    let xs : List ℕ = c.args.from.now in
    let room : ℕ = area_size - c.args.count % area_size in
    let rest : length (drop room xs) ≡ length xs - room = length-drop room xs in
    let whole : room - 0 ≡ room = omega arith in
    c.write_run-else-n-room-2.ensures
    ∙ ap₂ (λ (p ys : List ℕ). sets p area ys)
    (c.write_run-else-n-room.ensures ∙ ap (λ (n : ℕ). sets c.args.page.now (area + c.args.count % area_size) (take n xs)) whole)
    (take_all (length xs - room) (drop room xs) (omega arith))
    ∙ sym (put-over area xs c.args.page.now c.args.count room refl (omega arith) c.requires.1)
