-- `messages::table::all_below` meets its contract: an entry more is below the queue count too, or is not.
use Rattle.octets.specs.Prelude.{◌≡◌, refl, sym, arith}
use Rattle.messages.specs.Requests.{entries_in, all_below}
use Rattle.messages.proofs.Tables.{below_with}
use Rattle.std.proofs.Common.{rules}
use Rattle.messages.proofs.table.all_below.Goals as goal

pub loop-k-init : goal.loop-k-init
unfolding entries_in all_below
loop-k-init c = refl

pub loop-k-preserved : goal.loop-k-preserved
loop-k-preserved c = below_with _ _ _ _ _ c.loop-k.invariant c.read_u64-queue.ensures

pub returns : goal.returns
returns c =
    let loop = c.loop-k in
    let all : loop.k ≡ c.args.count = search rules in
    rw all at loop.invariant
