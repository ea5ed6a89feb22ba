-- Whether the entries so far are below the queue count.
use Rattle.octets.specs.Prelude.{◌≡◌}
use Rattle.messages.specs.Requests.{entries_in, all_below}
use Rattle.messages.proofs.table.all_below.Given as goal

abbrev pub invariant-loop-k : goal.invariant-loop-k
invariant-loop-k l = l.below ≡ all_below l.queues (entries_in l.k l.payload)
