-- No file leaves a queue count that takes more than an octet.
use Rattle.octets.specs.Prelude.{◌^◌, ◌<◌}
use Rattle.message_vectors.proofs.main.Given as goal

abbrev pub invariant-loop-part : goal.invariant-loop-part
invariant-loop-part l = l.i.queues < 2 ^ 8
