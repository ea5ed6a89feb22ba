-- Every file leaves both ends good.
use Rattle.guest_steps.specs.Guest.{Good as GoodGuest, state_of as guest_of}
use Rattle.interface.specs.States.{Good, state_of}
use Rattle.guest_vectors.proofs.main.Given as goal

abbrev pub invariant-loop-part : goal.invariant-loop-part
invariant-loop-part l = GoodGuest (guest_of l.guest) × Good (state_of l.interface)
