-- `message_vectors::request` meets its contract: a request leaves the queue count as it was.
use Rattle.octets.specs.Prelude.{◌≡◌, refl, ap, ◌∙◌, arith}
use Rattle.messages.specs.Settings.{Settings}
use Rattle.interface.specs.States.{HostState}
use Rattle.interface.specs.Events.{carried_over}
use Rattle.messages.proofs.Effects.{settings-either, replaced-queues}
use Rattle.message_vectors.proofs.request.Goals as goal

same-queues : (s : HostState) → (carried_over s).settings.queues ≡ s.settings.queues
unfolding carried_over
same-queues s = settings-either _ s.settings _ _ (λ (t : Settings). t.queues ≡ s.settings.queues) refl (λ e. replaced-queues _ s.settings _ _)

pub returns : goal.returns
returns c =
    let same = ap (λ (s : HostState). s.settings.queues) (c.carry_out.ensures c.requires.0) ∙ same-queues _ in
    omega (arith, same, c.requires.0)
