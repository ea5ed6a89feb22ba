-- No case leaves a queue count that takes more than an octet.
use Rattle.octets.specs.Prelude.{◌^◌, ◌<◌}
use Rattle.message_vectors.proofs.run.Given as goal

abbrev pub invariant-loop-case : goal.invariant-loop-case
invariant-loop-case l = l.i.queues < 2 ^ 8
