-- `event_stages::respond` meets its contract: the ack octets that fit are sent and counted, and the counts are written behind
-- them.
use Rattle.octets.specs.Prelude.{sym, refl, ◌∙◌}
use Rattle.interface.specs.States.{state_of}
use Rattle.event_stages.proofs.Parts.{responds}
use Rattle.event_stages.proofs.respond.Goals as goal

-- octets are still owed, or not
pub returns-then-owes : goal.returns-then-owes
returns-then-owes c =
    let owed = sym c.owes.ensures ∙ c.if-owes.true in
    responds (state_of c.args.i.now) _ _ _ _ _ _ c.send.ensures.0 c.send.ensures.1 c.write_counts.ensures (rw owed refl)

pub returns-else-owes : goal.returns-else-owes
returns-else-owes c =
    let none = sym c.owes.ensures ∙ c.if-owes.false in
    responds (state_of c.args.i.now) _ _ _ _ _ _ c.send.ensures.0 c.send.ensures.1 c.write_counts.ensures (rw none refl)
