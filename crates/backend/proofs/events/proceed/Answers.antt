-- `backend::events::proceed` meets its contract: its test is that of `proceeded`, and what it calls does what the definitions say
-- of each stage.
use Rattle.octets.specs.Prelude.{sym, subst, ◌∙◌, arith}
use Rattle.interface.specs.States.{state_of}
use Rattle.backend.proofs.Goodness.{Concludes, read-concludes}
use Rattle.concluding.proofs.Steps.{proceeds-owing, proceeds-idle}
use Rattle.backend.proofs.events.proceed.Goals as goal

pub returns-then-owes : goal.returns-then-owes
returns-then-owes c =
    c.respond.ensures ∙ proceeds-owing (state_of c.args.i.now) _ _ _ (sym c.owes.ensures ∙ c.if-owes.true)

-- once the present message has been read
pub conclude-requires : goal.conclude-requires
conclude-requires c =
    let x = subst Concludes (sym c.read_request.ensures) (read-concludes (state_of c.args.i.now) c.args.page.now c.args.unread c.requires.good) in
    record {
      good = (x.carried, omega (arith, x.settings.queues));
      page_len = (c.requires.page_len.0, c.requires.page_len.2);
      counts = (x.cons, x.prod);
    }

pub returns : goal.returns
returns c =
    c.conclude.ensures ∙ proceeds-idle (state_of c.args.i.now) _ _ _ _ (sym c.owes.ensures ∙ c.if-owes.false) c.read_request.ensures
