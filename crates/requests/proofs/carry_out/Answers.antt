-- `requests::carry_out` meets its contract: what the judge and the ack leave is the state with the request carried out.
use Rattle.octets.specs.Prelude.{ap₂, ◌∙◌, ℕ}
use Rattle.messages.specs.Requests.{carried_out}
use Rattle.interface.specs.States.{state_of}
use Rattle.requests.proofs.Carrying.{carried-stored}
use Rattle.requests.proofs.carry_out.Goals as goal

pub returns : goal.returns
returns c = λ fits.
    let i = c.args.i.now in
    let s = state_of i in
    let judged = c.judge-judged.ensures in
    let carried = judged.settings_after fits
    ∙ ap₂ (λ (t n : ℕ). carried_out s.settings t n i.payload) c.read_u32-kind.ensures c.read_u32-size.ensures in
    carried-stored s _ _ _ _ (rw c.answer-ack.ensures carried) judged.ring_stays.0 judged.ring_stays.1
