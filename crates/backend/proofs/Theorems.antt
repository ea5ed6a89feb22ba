-- What readers ask of an event, over the definitions alone. The contract says that the call answers what `event_of` says;
-- these say what that means, sentence by sentence of document 01. (The refusals are in `Answers`.)
use Rattle.octets.specs.Prelude.{◌≡◌, refl, sym, ap, ◌∙◌, List, ◌++◌, true, false, false≢true, ℕ, ◌^◌, ◌<◌, arith, length}
use Rattle.messages.specs.Wire.{type_in, size_in, success}
use Rattle.messages.specs.Requests.{ack_status}
use Rattle.messages.proofs.Theorems.{refused-keeps-settings, queues-stay}
use Rattle.page.specs.Page.{requests_at, responses_at, advanced, less, octets_in}
use Rattle.ring.specs.Reading.{received, received_from}
use Rattle.ring.specs.Streams.{begins_whole, present_part, Holding}
use Rattle.page.proofs.Places.{octets-length}
use Rattle.ring.proofs.Holdings.{holding-whole, holding-received, present-whole}
use Rattle.steering.specs.Steering.{queue_in}
use Rattle.interface.specs.States.{Good, steered_by, HostState}
use Rattle.interface.specs.Events.{After, unread, owes, responded, read_in, carried_in, carried_over, event_of}
use Rattle.backend.specs.Streams.{read_by, written_by, Reached, from_set_up, from_event}
use Rattle.backend.specs.Rules.{Accepted, room, after_reading, BecomesWhole}
use Rattle.backend.proofs.Branches.{event-cases}
use Rattle.backend.proofs.Goodness.{good-interface, good-event}
use Rattle.interface.proofs.Queues.{good-queue}
use Rattle.backend.proofs.Arrivals.{read-octets}

-- every state that calls reach from setup is good
pub reached-good : (s : HostState) → Reached s → Good s
reached-good s (from_set_up q some most) = good-interface q some most
reached-good s (from_event r page reached) = good-event r page (reached-good r reached)

-- demand 1: every queue chosen is below the number of queues in operation
pub every-queue-below : (s : HostState) (packet : List ℕ) → Reached s → queue_in (steered_by s.settings packet) < s.settings.queues
every-queue-below s packet reached = good-queue s.settings packet (reached-good s reached).settings

-- a count moves by the octets between what it was and what it is
moved : (area : ℕ) (page : List ℕ) (c d : ℕ) → c < 2 ^ 32 → d < 2 ^ 32 → d ≡ advanced c (length (octets_in area page c (less d c)))
moved area page c d was is = omega (arith, octets-length area page c (less d c))

module _ (s : HostState) (page : List ℕ) where
  -- with an ack owed nothing is read
  pub owed-reads-none : owes s ≡ true → (event_of s page).state.incoming ≡ s.incoming
  unfolding responded
  owed-reads-none owing =
      let busy : owes s ≡ false → ⊥ = λ idle. false≢true (sym idle ∙ owing) in
      event-cases s page (λ (a : After). a.state.incoming ≡ s.incoming) (λ k x. refl) (λ ok o. refl)
      (λ ok idle part. absurd (busy idle)) (λ ok idle all. absurd (busy idle))

  -- settings change only at the event at which the message becomes whole
  pub settings-stay : (BecomesWhole s page → ⊥) → (event_of s page).state.settings ≡ s.settings
  unfolding responded read_in
  settings-stay not-whole =
      event-cases s page (λ (a : After). a.state.settings ≡ s.settings) (λ k x. refl) (λ ok owing. refl) (λ ok idle part. refl)
      (λ ok idle all. absurd (not-whole (record { accepted = ok; idle = idle; all = all })))

  -- and there they are those that carrying out the message leaves, and its ack is begun
  pub carried-out : BecomesWhole s page → event_of s page ≡ responded (carried_over (after_reading s page)) page (room s page)
  carried-out becomes =
      let ok = becomes.accepted in
      event-cases s page (λ (a : After). a ≡ responded (carried_over (after_reading s page)) page (room s page))
      (λ k x. absurd (x.not-passed ok.size ok.requests ok.responses))
      (λ _ owing. absurd (false≢true (sym becomes.idle ∙ owing)))
      (λ _ idle part. absurd (false≢true (sym part ∙ becomes.all)))
      (λ _ idle all. refl)

  pub settings-carried : BecomesWhole s page → (event_of s page).state.settings ≡ (carried_in (after_reading s page)).settings
  unfolding responded carried_over
  settings-carried becomes = ap (λ (a : After). a.state.settings) (carried-out becomes)

  -- demand 1: a request acked with a nonzero status leaves key, mapping and flags as they stood
  pub nonzero-leaves-settings : BecomesWhole s page → (ack_status (carried_in (after_reading s page)) ≡ success → ⊥)
      → (event_of s page).state.settings ≡ s.settings
  unfolding read_in
  nonzero-leaves-settings becomes nonzero =
      let m = (after_reading s page).incoming.message in
      settings-carried becomes ∙ refused-keeps-settings s.settings (type_in m.header) (size_in m.header) m.payload nonzero

  -- the queue count is fixed at setup
  pub queue-count-stays : (event_of s page).state.settings.queues ≡ s.settings.queues
  unfolding responded read_in carried_over
  queue-count-stays =
      event-cases s page (λ (a : After). a.state.settings.queues ≡ s.settings.queues) (λ k x. refl) (λ ok owing. refl)
      (λ ok idle part. refl)
      (λ ok idle all. let m = (after_reading s page).incoming.message in
      queues-stay s.settings (type_in m.header) (size_in m.header) m.payload)

  -- the own counts: req_cons moves by exactly the octets read, and rsp_prod by the octets written
  pub req-cons-moves : Good s → (event_of s page).state.incoming.cons ≡ advanced s.incoming.cons (length (read_by s page))
  req-cons-moves good = moved requests_at page _ _ good.incoming.count (good-event s page good).incoming.count

  pub rsp-prod-moves : Good s → (event_of s page).state.outgoing.prod ≡ advanced s.outgoing.prod (length (written_by s page))
  rsp-prod-moves good = moved responses_at (event_of s page).page _ _ good.outgoing.count (good-event s page good).outgoing.count

  -- the octets are read by reading alone
  read_all : Accepted s page → owes s ≡ false → (event_of s page).state.incoming.cons ≡ (after_reading s page).incoming.cons
  unfolding responded carried_over
  read_all ok idle =
      event-cases s page (λ (a : After). a.state.incoming.cons ≡ (after_reading s page).incoming.cons)
      (λ k x. absurd (x.not-passed ok.size ok.requests ok.responses)) (λ _ owing. absurd (false≢true (sym idle ∙ owing)))
      (λ _ i part. refl) (λ _ i all. refl)

  -- what is read of the present message, of which xs were held: with the octets in the area they make up the stream
  module _ (xs : List ℕ) (held : Holding s.incoming.message xs) (good : Good s) (ok : Accepted s page) (idle : owes s ≡ false) where
    part : begins_whole xs ≡ false
    part = sym (holding-whole s.incoming.message xs held) ∙ good.incoming.waiting

    abbrev stream : List ℕ
    stream = xs ++ octets_in requests_at page s.incoming.cons (unread s page)

    -- a request whose missing octets all lie in the area is carried out at that event
    pub carried-out-when-there : begins_whole stream ≡ true → BecomesWhole s page
    unfolding read_in received_from
    carried-out-when-there there =
        let ys = octets_in requests_at page s.incoming.cons (unread s page) in
        let after = holding-received ys s.incoming.message xs held part in
        let same = holding-whole (received ys s.incoming.message) (present_part stream) after in
        record { accepted = ok; idle = idle; all = same ∙ present-whole stream ∙ there }

    -- and octets of a following message stay: the octets read are those that the present message has more
    pub following-stays : xs ++ read_by s page ≡ present_part stream
    following-stays =
        ap (λ (c : ℕ). xs ++ octets_in requests_at page s.incoming.cons (less c s.incoming.cons)) (read_all ok idle)
        ∙ read-octets s page (unread s page) xs good held part ok.requests
