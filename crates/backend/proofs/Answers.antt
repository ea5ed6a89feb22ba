-- The answers of setup and of an event: each refusal exactly where its condition is the first that holds.
use Rattle.octets.specs.Prelude.{◌≡◌, refl, sym, ◌∙◌, List, ◌↔◌, Bool, true, false, cond, ◌&&◌, false≢true, ℕ, ◌≤◌, ◌<◌, arith, length}
use Rattle.octets.specs.Prelude.{leb, le-leb, leb-true}
use Rattle.octets.specs.Outcome.{Outcome, value, refused}
use Rattle.octets.proofs.Truth.{both_true, by-test, neither, beside}
use Rattle.octets.proofs.Outcomes.{value-not-refused, test-value}
use Rattle.messages.specs.Settings.{max_queues}
use Rattle.page.specs.Refusals.{page_wrong, requests_wrong, responses_wrong}
use Rattle.page.specs.Page.{page_size, area_size}
use Rattle.page.proofs.Tests.{RefusesExactly}
use Rattle.ring.specs.Reading.{whole}
use Rattle.interface.specs.States.{HostState, queues_wrong, interface_at_setup, set_up_outcome}
use Rattle.interface.specs.Events.{After, waiting, ack_written, ack_owed, unread, unread_acks, owes, responded}
use Rattle.interface.specs.Events.{read_in, carried_over, proceeded, event_of}
use Rattle.backend.specs.Rules.{Accepted, room, after_reading}
use Rattle.backend.proofs.Branches.{event-ways, proceeded-cases, event-cases}

-- setup gives the interface for 1 to 64 queues, and refuses any other number by 6
in-range : (q : ℕ) → ((leb 1 q && leb q max_queues) ≡ true) ↔ ((1 ≤ q) × (q ≤ max_queues))
in-range q =
    let both = both_true (leb 1 q) (leb q max_queues) in
    (λ e. let x = both.0 e in (leb-true _ _ x.0, leb-true _ _ x.1), λ h. both.1 (le-leb _ _ h.0, le-leb _ _ h.1))

pub set-up-exactly : (q : ℕ) → (set_up_outcome q ≡ value (interface_at_setup q)) ↔ ((1 ≤ q) × (q ≤ max_queues))
unfolding set_up_outcome
set-up-exactly q = (λ e. (in-range q).0 (test-value _ _ _ _ e).0, λ h. rw ((in-range q).1 h) refl)

pub set-up-refuses : (q : ℕ) → (set_up_outcome q ≡ refused queues_wrong) ↔ ((1 ≤ q) × (q ≤ max_queues) → ⊥)
unfolding set_up_outcome
set-up-refuses q = (
  λ e h. value-not-refused (interface_at_setup q) queues_wrong (sym ((set-up-exactly q).1 h) ∙ e),
  λ outside. by-test (λ (o : Outcome HostState). o ≡ refused queues_wrong) (leb 1 q && leb q max_queues) _ _
      (λ t. absurd (outside ((in-range q).0 t))) (λ t. refl),
)

-- a response answers 1, or 2 where octets are still owed
record ResponseTells (answer : ℕ) (owing : Bool) : Type 0 where
  least : ack_written ≤ answer
  most : answer ≤ ack_owed
  more : (answer ≡ ack_owed) ↔ (owing ≡ true)

owing-tells : (owing : Bool) → ResponseTells (cond owing ack_owed ack_written) owing
owing-tells true = record { least = omega arith; most = omega arith; more = (λ e. refl, λ e. refl) }
owing-tells false = record { least = omega arith; most = omega arith; more = neither (omega arith) false≢true }

response-tells : (s : HostState) (page : List ℕ) (n : ℕ) → ResponseTells (responded s page n).answer (owes (responded s page n).state)
unfolding responded
response-tells s page n = owing-tells (owes (responded s page n).state)

-- reading leaves what is owed
read-owes : (s : HostState) (page : List ℕ) → owes s ≡ false → owes (after_reading s page) ≡ false
unfolding read_in
read-owes s page idle = idle

-- what the answer tells of an event, and what a refusal leaves
record Told (s : HostState) (page : List ℕ) (a : After) : Type 0 where
  exactly : RefusesExactly page (unread s page) (unread_acks s page) a.answer
  accepted : (a.answer ≤ ack_owed) ↔ Accepted s page
  leaves : ack_owed < a.answer → (a.state ≡ s) × (a.page ≡ page)

module _ (s : HostState) (page : List ℕ) where
  -- where the counts are good, the answer is 0, 1 or 2
  answer-small : (proceeded s page (unread s page) (room s page)).answer ≤ ack_owed
  answer-small =
      proceeded-cases s page (λ (a : After). a.answer ≤ ack_owed) (λ o. (response-tells s page (room s page)).most) (λ i w. omega arith)
      (λ i w. (response-tells (carried_over (after_reading s page)) page (room s page)).most)

  told : Told s page (event_of s page)
  told =
      event-ways s page (Told s page)
      (λ k x. record {
        exactly = x.exactly;
        accepted = neither (omega arith) (λ ok. x.not-passed ok.size ok.requests ok.responses);
        leaves = λ h. (refl, refl);
      })
      (λ ok. let small = answer-small in
      record { exactly = omega arith; accepted = (λ l. ok, λ _. small); leaves = λ h. absurd (omega arith) })

  -- 3, 4 and 5 are given exactly where their condition is the first that holds, and 0, 1 or 2 where none does
  pub refuses-page : ((event_of s page).answer ≡ page_wrong) ↔ (length page ≡ page_size → ⊥)
  refuses-page = told.exactly.wrong-page

  pub refuses-requests : ((event_of s page).answer ≡ requests_wrong) ↔ ((length page ≡ page_size) × (area_size < unread s page))
  refuses-requests = told.exactly.wrong-requests

  pub refuses-responses : ((event_of s page).answer ≡ responses_wrong)
      ↔ ((length page ≡ page_size) × (unread s page ≤ area_size) × (area_size < unread_acks s page))
  refuses-responses = told.exactly.wrong-responses

  pub accepts-exactly : ((event_of s page).answer ≤ ack_owed) ↔ Accepted s page
  accepts-exactly = told.accepted

  -- 3, 4 and 5 leave state and page as before
  pub refused-leaves-all : ack_owed < (event_of s page).answer → ((event_of s page).state ≡ s) × ((event_of s page).page ≡ page)
  refused-leaves-all = told.leaves

  -- 2 exactly where octets of an ack are owed after the event, and 1 or 0 where none are
  pub owed-exactly : ((event_of s page).answer ≡ ack_owed) ↔ (Accepted s page × (owes (event_of s page).state ≡ true))
  owed-exactly =
      event-cases s page (λ (a : After). (a.answer ≡ ack_owed) ↔ (Accepted s page × (owes a.state ≡ true)))
      (λ k x. neither (omega arith) (λ y. x.not-passed y.0.size y.0.requests y.0.responses))
      (λ ok owing. beside ok (response-tells s page (room s page)).more)
      (λ ok idle part. neither (omega arith) (λ x. false≢true (sym (read-owes s page idle) ∙ x.1)))
      (λ ok idle all. beside ok (response-tells (carried_over (after_reading s page)) page (room s page)).more)

  -- 0 exactly where no ack was owed and the message is not whole once the octets there are have been read
  pub waits-exactly : ((event_of s page).answer ≡ waiting)
      ↔ (Accepted s page × (owes s ≡ false) × (whole (after_reading s page).incoming.message ≡ false))
  waits-exactly =
      event-cases s page
      (λ (a : After). (a.answer ≡ waiting) ↔ (Accepted s page × (owes s ≡ false) × (whole (after_reading s page).incoming.message ≡ false)))
      (λ k x. neither (omega arith) (λ y. x.not-passed y.0.size y.0.requests y.0.responses))
      (λ ok owing. neither (omega (arith, (response-tells s page (room s page)).least)) (λ x. false≢true (sym x.1 ∙ owing)))
      (λ ok idle part. (λ e. (ok, idle, part), λ x. refl))
      (λ ok idle all. neither (omega (arith, (response-tells (carried_over (after_reading s page)) page (room s page)).least))
      (λ x. false≢true (sym x.2 ∙ all)))
