-- What a reader wants of the exported calls, over their definitions.
use Rattle.octets.specs.Prelude.{◌≡◌, refl, ap, ◌∙◌, List, Bool, true, false, cond, ◌&&◌, ℕ, ◌<◌, arith, leb, leb-true}
use Rattle.octets.specs.Outcome.{value, refused, done, number_of, placed, itself}
use Rattle.octets.proofs.Truth.{both_true}
use Rattle.messages.specs.Settings.{max_queues}
use Rattle.interface.specs.States.{Good, queues_wrong, interface_at_setup, set_up_outcome, steered_by, HostState}
use Rattle.interface.specs.Events.{After, ack_owed, event_of, left}
use Rattle.backend.proofs.Goodness.{good-interface}
use Rattle.backend.proofs.Answers.{refused-leaves-all}
use Rattle.interface.proofs.Queues.{good-queue}
use Rattle.questions.specs.Answers.{Steers}

-- a setup that is answered 0 leaves a state that the other calls can be asked with
pub set-up-good : (q : ℕ) (s : HostState) → number_of (set_up_outcome q) ≡ done → Good (placed itself (set_up_outcome q) s)
unfolding set_up_outcome
set-up-good q s e = by (leb 1 q && leb q max_queues) refl e
  where
    by : (t : Bool) → (leb 1 q && leb q max_queues) ≡ t → number_of (cond t (value (interface_at_setup q)) (refused queues_wrong)) ≡ done
        → Good (placed itself (cond t (value (interface_at_setup q)) (refused queues_wrong)) s)
    by true h e = let x = (both_true (leb 1 q) (leb q max_queues)).0 h in good-interface q (leb-true _ _ x.0) (leb-true _ _ x.1)
    by false h e = absurd (omega (arith, e))

-- an event that is refused leaves the interface and every octet of the page
pub refused-event-leaves : (r : ℕ) (s t : HostState) (page octets : List ℕ) → left r t octets ≡ event_of s page → ack_owed < r → (t ≡ s)
    × (octets ≡ page)
refused-event-leaves r s t page octets e high =
    let answer : r ≡ (event_of s page).answer = ap (λ (a : After). a.answer) e in
    let leaves = refused-leaves-all s page (omega (arith, answer, high)) in
    (ap (λ (a : After). a.state) e ∙ leaves.0, ap (λ (a : After). a.page) e ∙ leaves.1)

-- demand 1: the queue told is below the number of queues in operation
pub told-queue-below : (s : HostState) (packet : List ℕ) (t₀ h₀ r t h queue : ℕ) → Good s
    → Steers (steered_by s.settings packet) t₀ h₀ r t h queue
    → queue < s.settings.queues
told-queue-below s packet t₀ h₀ r t h queue good told = rw told.in-queue (good-queue s.settings packet good.settings)
