-- `messages::table::build_table` meets its contract: the array holds the entries so far.
use Rattle.octets.specs.Prelude.{◌≡◌, refl, arith}
use Rattle.messages.specs.Requests.{entries_in}
use Rattle.messages.proofs.Tables.{entry-below, stored_next, stored-all}
use Rattle.std.proofs.Common.{rules}
use Rattle.messages.proofs.table.build_table.Goals as goal

pub loop-k-init : goal.loop-k-init
unfolding entries_in
loop-k-init c = (refl, refl)

pub overflow_cast-entries : goal.overflow_cast-entries
overflow_cast-entries c =
    omega (arith, entry-below 256 _ _ _ _ c.requires.2 (omega arith) c.read_u64.ensures)

pub loop-k-preserved : goal.loop-k-preserved
loop-k-preserved c =
    (stored_next _ _ _ _ (search rules) c.read_u64.ensures c.loop-k.invariant.0, search rules)

pub returns : goal.returns
returns c =
    let loop = c.loop-k in
    let all : loop.k ≡ c.args.count = search rules in
    stored-all _ _ _ (rw all at loop.invariant.0)

pub overflow_cast-entries-in-loop-k : goal.overflow_cast-entries-in-loop-k
overflow_cast-entries-in-loop-k c =
    omega (arith, entry-below 256 _ _ _ _ c.requires.2 (omega arith) c.read_u64.ensures)
