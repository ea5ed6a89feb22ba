-- Every case leaves a good interface.
use Rattle.interface.specs.States.{Good, state_of}
use Rattle.event_vectors.proofs.run.Given as goal

abbrev pub invariant-loop-case : goal.invariant-loop-case
invariant-loop-case l = Good (state_of l.i)
