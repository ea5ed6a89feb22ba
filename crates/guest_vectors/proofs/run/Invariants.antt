-- Every case leaves both ends good.
use Rattle.guest_steps.specs.Guest.{Good as GoodGuest, state_of as guest_of}
use Rattle.interface.specs.States.{Good, state_of}
use Rattle.guest_vectors.proofs.run.Given as goal

abbrev pub invariant-loop-case : goal.invariant-loop-case
invariant-loop-case l = GoodGuest (guest_of l.guest) × Good (state_of l.interface)
