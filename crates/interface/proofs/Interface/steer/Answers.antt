-- `interface::Interface::steer` meets its contract: the table is the listed number of entries, and can be asked.
use Rattle.octets.specs.Prelude.{◌≡◌, ℕ, arith, rules, length, length-take}
use Rattle.toeplitz.specs.Hash.{key_length}
use Rattle.messages.specs.Settings.{max_entries}
use Rattle.messages.proofs.Powers.{listed-parts}
use Rattle.interface.proofs.Queues.{usable}
use Rattle.interface.proofs.Interface.steer.Goals as goal

pub slice_bounds-steer-end-2 : goal.slice_bounds-steer-end-2
slice_bounds-steer-end-2 c =
    let i = c.args.self.now in
    let long : length i.entries ≡ max_entries = search rules in
    omega (arith, ((listed-parts i.entry_count).0 c.requires.0).1)

pub steer-requires : goal.steer-requires
steer-requires c =
    let i = c.args.self.now in
    let whole : length i.key ≡ key_length = search rules in
    let long : length i.entries ≡ max_entries = search rules in
    let can = usable i.key i.entries i.entry_count whole long c.requires.0 in
    record { key-whole = whole; some-entry = omega (arith, length-take {A = ℕ}, can.some-entry) }
