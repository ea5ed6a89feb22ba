-- `backend::events::event` meets its contract: its tests are those of `event_of`, in their order.
use Rattle.octets.specs.Prelude.{sym, ap, subst, ◌∙◌, arith}
use Rattle.interface.specs.States.{Good, state_of}
use Rattle.interface.specs.Events.{After}
use Rattle.concluding.proofs.Steps.{goes_on}
use Rattle.backend.proofs.Goodness.{good-event}
use Rattle.backend.proofs.events.event.Goals as goal

-- the counts are good
pub returns : goal.returns
returns c =
    let s = state_of c.args.i.now in
    let page = c.args.page.now in
    let same = c.proceed.ensures
    ∙ goes_on s page _ _ (omega arith) c.unread_here-unread.ensures (omega arith) c.unread_by_other-waiting.ensures (omega arith) in
    (same, subst Good (sym (ap (λ (x : After). x.state) same)) (good-event s page c.requires))
