-- Every file leaves a good interface.
use Rattle.interface.specs.States.{Good, state_of}
use Rattle.event_vectors.proofs.main.Given as goal

abbrev pub invariant-loop-part : goal.invariant-loop-part
invariant-loop-part l = Good (state_of l.i)
