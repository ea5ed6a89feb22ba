-- Good settings can be asked for a packet's queue, and each queue that they give is below the queue count.
use Rattle.octets.specs.Prelude.{◌≡◌, List, true, ℕ, ◌≤◌, ◌<◌, length, take, length-take-le}
use lib.Pow.{pow_pos}
use Rattle.toeplitz.specs.Hash.{key_length}
use Rattle.messages.specs.Settings.{max_entries, is_listed, table_of, Good, Settings}
use Rattle.messages.proofs.Powers.{power-exactly, listed-parts}
use Rattle.steering.specs.Steering.{Usable, queue_in}
use Rattle.steering.proofs.Theorems.{queue-below}
use Rattle.interface.specs.States.{steered_by}

-- a key of 40 octets can be asked, with a mapping of a listed number of entries
pub usable : (key entries : List ℕ) (count : ℕ) → length key ≡ key_length → length entries ≡ max_entries → is_listed count ≡ true
    → Usable key (take count entries)
usable key entries count whole size listed =
    let x = (listed-parts count).0 listed in
    let p = (power-exactly count).0 x.0 in
    let some : 1 ≤ count = rw p.1 (pow_pos p.0) in
    let long : count ≤ length entries = rw size x.1 in
    record { key-whole = whole; some-entry = rw (length-take-le count entries long) some }

pub good-usable : (s : Settings) → Good s → Usable s.key (table_of s.mapping)
good-usable s good =
    let m = good.mapping in
    usable s.key s.mapping.entries s.mapping.count good.key m.size m.listed

pub good-queue : (s : Settings) (packet : List ℕ) → Good s → queue_in (steered_by s packet) < s.queues
good-queue s packet good =
    queue-below s.flags s.key (table_of s.mapping) packet s.queues good.some-queue
    (good-usable s good).some-entry good.mapping.below
