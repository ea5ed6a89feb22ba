-- `frontend::events::event` meets its contract: what it calls does what the definitions say of each case, and so leaves a good guest.
use Rattle.std.proofs.Common.{arith, Ok, Result}
use Rattle.std.proofs.lemmas.Grind.{common_steps}
use Rattle.guest_steps.specs.Guest.{state_of}
use Rattle.guest_steps.specs.Calls.{event_by}
use Rattle.guest_steps.specs.declared.Progress.{Progress}
use Rattle.guest_steps.specs.declared.Refusal.{Refusal}
use Rattle.frontend.proofs.Goodness.{event-leaves-good}
use Rattle.frontend.proofs.events.event.Goals as goal

pub returns-then-owes : goal.returns-then-owes
unfolding event_by
returns-then-owes c =
    let r : Result Progress Refusal = Ok c.write_on.result in
    event-leaves-good r (state_of c.args.guest.now) (state_of c.write_on.new.guest) c.args.page.now c.write_on.new.page c.requires
    (grind (arith, common_steps))

pub returns : goal.returns
unfolding event_by
returns c =
    let r : Result Progress Refusal = c.collect.result in
    event-leaves-good r (state_of c.args.guest.now) (state_of c.collect.new.guest) c.args.page.now c.collect.new.page c.requires
    (grind (arith, common_steps))
