-- What readers ask of the guest's end, over the definitions of its calls alone.
use Rattle.octets.specs.Prelude.{◌≡◌, refl, sym, ap, ◌∙◌, List, true, false, false≢true, ℕ, ◌+◌, ◌≤◌, ◌<◌, arith, eq-eqb, ne_eqb, le-leb}
use Rattle.octets.specs.Outcome.{Outcome, value, refused}
use Rattle.messages.specs.Wire.{header_size, field_size, type_in, size_in}
use Rattle.ring.specs.Reading.{whole}
use Rattle.guest_messages.specs.Refusals.{not_an_ack}
use Rattle.guest_steps.specs.Refusals.{request_outstanding}
use Rattle.guest_messages.specs.Reader.{Reading, read_ack}
use Rattle.guest_steps.specs.Guest.{GuestState, idle, outstanding, failed, owes, number, acked, ack_read, pending, request_owed, told_number}
use Rattle.guest_steps.specs.Guest.{incoming, Good}
use Rattle.guest_steps.specs.Calls.{After, found, unread_acks, refused_with, answered_with, begun, wrote_on, started_by, readied, start_by}
use Rattle.guest_steps.specs.Calls.{start_of, message_octets, seen, concluded, read_on, event_by, event_of}
use Rattle.frontend.specs.Rules.{Accepted, room, after_reading, Reached, from_set_up, from_start, from_event}
use Rattle.frontend.proofs.Goodness.{asked-fits, good-at-setup, good-started, good-event, start-way}
use Rattle.frontend.proofs.Ways.{Way, leaves, fails, answers, writes, event-ways, read-ways, event-way}
use Rattle.guest_steps.proofs.Finds.{found-failed, found-counts}
use Rattle.frontend.proofs.GuestAnswers.{wrote-tells}

-- every reached state is good
pub reached-good : (g : GuestState) → Reached g → Good g
reached-good _ from_set_up = good-at-setup
reached-good _ (from_start request g page asked r) = good-started request g page (asked-fits request asked) (reached-good g r)
reached-good _ (from_event g page r) = good-event g page (reached-good g r)

wrote-reads-none : (g : GuestState) (page : List ℕ) (n : ℕ) → incoming (wrote_on g page n).state ≡ incoming g
unfolding wrote_on
wrote-reads-none g page n = refl

-- state and page as before
abbrev Leaves : GuestState → List ℕ → After → Type 0
Leaves g page a = (a.state ≡ g) × (a.page ≡ page)

-- a call of either kind: where it has no reason to read it reads nothing, and a refusal leaves state and page
module _ (g : GuestState) (page : List ℕ) (K R : Type 0) where
  way-reads-none : {a : After} → (R → ⊥) → Way g page K R a → incoming a.state ≡ incoming g
  way-reads-none none (leaves k high) = refl
  way-reads-none none (fails r) = absurd (none r)
  way-reads-none none (answers t h size same low unread) = unread none
  way-reads-none none (writes t size same unread good) = wrote-reads-none t page (room g page) ∙ unread

  way-leaves : {a : After} → request_owed < told_number a.answer → (R → told_number a.answer ≡ not_an_ack → ⊥) → Way g page K R a
      → Leaves g page a
  way-leaves above other (leaves k high) = (refl, refl)
  way-leaves above other (fails r) = absurd (other r refl)
  way-leaves above other (answers t h size same low unread) = absurd (omega arith)
  way-leaves above other (writes t size same unread good) = absurd (let x = (wrote-tells t page (room g page)).low in omega arith)

module _ (g : GuestState) (page : List ℕ) where
  -- an event refused by any number but 12 leaves both
  pub event-refused-leaves : (k : ℕ) → request_owed < k → (k ≡ not_an_ack → ⊥) → (event_of g page).answer ≡ number k → Leaves g page (event_of g page)
  event-refused-leaves k high other e =
      let same : told_number (event_of g page).answer ≡ k = ap told_number e in
      way-leaves g page _ _ (omega arith) (λ _ twelve. other (omega arith)) (event-way g page)

  -- an ack that the reader refuses: own counts and page as before, and the guest has failed
  pub refused-ack : (event_of g page).answer ≡ number not_an_ack → ((event_of g page).page ≡ page) × ((event_of g page).state.req_prod ≡ g.req_prod)
      × ((event_of g page).state.rsp_cons ≡ g.rsp_cons) × ((event_of g page).state.phase ≡ failed)
  refused-ack e =
      event-ways g page Kept (λ k s n. absurd (omega arith)) (λ ok f n. (refl, refl, refl, f)) (λ ok i n. absurd (omega arith))
      (λ ok w b o n. absurd (let x = (wrote-tells g page (room g page)).low in omega arith))
      (λ ok w b o. read-ways g page Kept (λ part n. absurd (omega arith)) (λ r w a n. absurd (omega arith)) (λ n. (refl, refl, refl, refl)))
      (ap told_number e)
    where
      Kept : After → Type 0
      Kept a =
          told_number a.answer ≡ not_an_ack
          → (a.page ≡ page) × (a.state.req_prod ≡ g.req_prod) × (a.state.rsp_cons ≡ g.rsp_cons) × (a.state.phase ≡ failed)

  -- what a call finds on a page that is accepted
  finds-failed : Accepted g page → g.phase ≡ failed → refused not_an_ack ≡ found g page
  finds-failed ok = found-failed g page _ ok.size refl _ ok.requests refl ok.responses

  finds-counts : Accepted g page → (g.phase ≡ failed → ⊥)
      → value (record { room = room g page; unread = unread_acks g page }) ≡ found g page
  finds-counts ok = found-counts g page _ ok.size refl _ ok.requests refl ok.responses

  -- once an ack was refused: 12 at every later call with good counts, an event or a start, which leaves state and page as they were
  pub failed-event : Accepted g page → g.phase ≡ failed → event_of g page ≡ refused_with not_an_ack g page
  unfolding event_by
  failed-event ok f = rw (← finds-failed ok f) refl

  pub failed-start : (request : Outcome (List ℕ)) → Accepted g page → g.phase ≡ failed → start_of request g page ≡ refused_with not_an_ack g page
  unfolding start_by readied
  failed-start request ok f = rw (← finds-failed ok f) refl

  -- a request begun while one is outstanding: 13
  pub outstanding-start : (request : Outcome (List ℕ)) → Accepted g page → g.phase ≡ outstanding
      → start_of request g page ≡ refused_with request_outstanding g page
  unfolding start_by readied
  outstanding-start request ok busy = rw (← finds-counts ok (omega arith), ne_eqb g.phase idle (omega arith)) refl

  -- else the writer's refusal; else the request is begun
  pub starts : (request : Outcome (List ℕ)) → Accepted g page → g.phase ≡ idle → start_of request g page ≡ started_by request g page (room g page)
  unfolding start_by readied
  starts request ok rest = rw (← finds-counts ok (omega arith), eq-eqb _ _ rest) refl

  pub begins : (request : Outcome (List ℕ)) (m : List ℕ) → request ≡ value m → Accepted g page → g.phase ≡ idle
      → start_of request g page ≡ wrote_on (begun g m) page (room g page)
  unfolding started_by
  begins request m accepts ok rest = starts request ok rest ∙ rw accepts refl

  pub refused-start : (k : ℕ) → Accepted g page → g.phase ≡ idle → start_of (refused k) g page ≡ refused_with k g page
  unfolding started_by
  refused-start k ok rest = starts (refused k) ok rest

  -- without a request: 0, with nothing read
  pub idle-answers-0 : Accepted g page → g.phase ≡ idle → event_of g page ≡ answered_with (number pending) g page
  unfolding event_by
  idle-answers-0 ok rest = rw (← finds-counts ok (omega arith), eq-eqb _ _ rest) refl

  -- a call with octets owed reads none, and neither does a start
  pub owed-reads-none : owes g ≡ true → incoming (event_of g page).state ≡ incoming g
  owed-reads-none owing = way-reads-none g page _ _ (λ none. false≢true (sym none ∙ owing)) (event-way g page)

  pub start-reads-none : (request : Outcome (List ℕ)) → incoming (start_of request g page).state ≡ incoming g
  start-reads-none request = way-reads-none g page _ ⊥ (λ none. none) (start-way request g page)

  -- a start refused by any number leaves both
  pub start-refused-leaves : (request : Outcome (List ℕ)) (k : ℕ) → request_owed < k → (start_of request g page).answer ≡ number k
      → Leaves g page (start_of request g page)
  start-refused-leaves request k high e =
      let same : told_number (start_of request g page).answer ≡ k = ap told_number e in
      way-leaves g page _ ⊥ (omega arith) (λ none _. none) (start-way request g page)

  -- 1 with what the reader says of the ack, which is whole; then no request is outstanding
  pub acked-says : (r : Reading) → (event_of g page).answer ≡ acked r
      → (whole (after_reading g page).message ≡ true)
      × (read_ack (type_in g.request) (message_octets (after_reading g page).message) ≡ value r)
      × ((event_of g page).state.phase ≡ idle)
  acked-says r e =
      event-ways g page Says (λ k s n _. absurd (omega arith)) (λ ok f n _. absurd (omega arith)) (λ ok i n _. absurd (omega arith))
      (λ ok w b o n _. absurd ((wrote-tells g page (room g page)).no-ack n))
      (λ ok w b o. read-ways g page Says (λ part n _. absurd (omega arith))
      (λ q w a n same. let x : q ≡ r = cc in (w, a ∙ ap value x, refl)) (λ n _. absurd (omega arith)))
      (ap told_number e) e
    where
      Says : After → Type 0
      Says a =
          told_number a.answer ≡ ack_read → a.answer ≡ acked r → (whole (after_reading g page).message ≡ true)
          × (read_ack (type_in g.request) (message_octets (after_reading g page).message) ≡ value r) × (a.state.phase ≡ idle)

  -- an ack is refused already at its header if its size is neither 8 nor 16
  pub refused-at-header : Accepted g page → g.phase ≡ outstanding → owes g ≡ false → header_size ≤ (after_reading g page).message.taken
      → (size_in (after_reading g page).message.header ≡ field_size → ⊥)
      → (size_in (after_reading g page).message.header ≡ field_size + field_size → ⊥) → (event_of g page).answer ≡ number not_an_ack
  unfolding event_by read_on seen concluded
  refused-at-header ok busy none there eight sixteen =
      let waits : g.phase ≡ idle → ⊥ = omega arith in
      rw (← finds-counts ok (omega arith), ne_eqb _ _ waits, none, le-leb _ _ there, ne_eqb _ _ eight, ne_eqb _ _ sixteen) refl
