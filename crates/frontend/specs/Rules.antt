-- What the theorems on the guest's calls speak of.
use Rattle.std.specs.Prelude.{◌≡◌, ◌⊎◌, ◌+◌, ◌-◌, ◌%◌, ◌≤◌, ◌<◌}
use Rattle.octets.specs.Prelude.{List, true, false, ℕ, length}
use Rattle.octets.specs.Outcome.{Outcome, refused}
use Rattle.messages.specs.Wire.{type_in}
use Rattle.page.specs.Page.{page_size, area_size, req_prod_at, rsp_prod_at, requests_at, responses_at, less, octets_in}
use Rattle.ring.specs.Reading.{received_from, Incoming}
use Rattle.ring.specs.Writing.{sent_octets}
use Rattle.guest_messages.specs.Refusals.{not_an_ack}
use Rattle.guest_messages.specs.Writer.{get_flags_message, set_flags_message, set_key_message, set_mapping_message}
use Rattle.guest_steps.specs.Guest.{idle, outstanding, failed, guest_at_setup, outgoing, incoming, owes, GuestState}
use Rattle.guest_steps.specs.Calls.{After, unread_requests, unread_acks, start_of, Seen, part, judged, seen, event_of}

-- a request that a start is for: the writer's message, or its refusal
pub data Asked : Outcome (List ℕ) → Type 0 where
  gets_flags : Asked get_flags_message
  sets_flags : (flags : ℕ) → Asked (set_flags_message flags)
  sets_key : (key : List ℕ) → Asked (set_key_message key)
  sets_mapping : (entries : List ℕ) → Asked (set_mapping_message entries)

-- good counts: none of the conditions of 3, 4 and 5 holds
pub record Accepted (g : GuestState) (page : List ℕ) : Type 0 where
  pub size : length page ≡ page_size
  pub requests : unread_requests g page ≤ area_size
  pub responses : unread_acks g page ≤ area_size

-- the room in the request area then, and the reading side once the octets there are have been read
abbrev pub room : GuestState → List ℕ → ℕ
room g page = area_size - unread_requests g page

abbrev pub after_reading : GuestState → List ℕ → Incoming
after_reading g page = received_from responses_at page (incoming g) (unread_acks g page)

-- a guest that awaits its ack: a request is outstanding, and none of its octets is owed
pub record Awaits (g : GuestState) : Type 0 where
  pub phase : g.phase ≡ outstanding
  pub written : owes g ≡ false

-- what it knows of the ack once the octets there are have been read
abbrev pub ack_seen : GuestState → List ℕ → Seen
ack_seen g page = seen (type_in g.request) (after_reading g page).message

-- why an event that leaves a answers 0: there is no request; its last octets were written; or its ack is not whole
pub data Pends (g : GuestState) (page : List ℕ) (a : After) : Type 0 where
  no-request : g.phase ≡ idle → Pends g page a
  last_written : g.phase ≡ outstanding → owes g ≡ true → owes a.state ≡ false → Pends g page a
  ack-in-part : Awaits g → ack_seen g page ≡ part → Pends g page a

-- why an event answers 12: an ack was refused before, or is refused now
pub data RefusesAck (g : GuestState) (page : List ℕ) : Type 0 where
  before : g.phase ≡ failed → RefusesAck g page
  now : Awaits g → ack_seen g page ≡ judged (refused not_an_ack) → RefusesAck g page

-- an octet of the page that is of none of the guest's own counts
abbrev pub NoOwnCount : ℕ → Type 0
NoOwnCount i = (i < req_prod_at) ⊎ (rsp_prod_at ≤ i)

-- how many octets a call writes, by the own req_prod before and after it, and the place of one of them
abbrev pub moved : GuestState → After → ℕ
moved g a = less a.state.req_prod g.req_prod

abbrev pub RequestPlace : GuestState → After → ℕ → Type 0
RequestPlace g a i = (j : ℕ) × (j < moved g a) × (i ≡ requests_at + (g.req_prod + j) % area_size)

-- the octets that a call writes, which then stand in the request area from the own req_prod before it on, are the next ones
-- of the guest's request
pub record WritesNext (g : GuestState) (a : After) : Type 0 where
  pub octets : octets_in requests_at a.page g.req_prod (moved g a) ≡ sent_octets (outgoing g) (moved g a)

-- two calls with the same answer and the same state left
pub record Alike (a b : After) : Type 0 where
  pub answer : a.answer ≡ b.answer
  pub state : a.state ≡ b.state

-- a state that calls reach from setup
pub data Reached : GuestState → Type 0 where
  from_set_up : Reached guest_at_setup
  from_start : (request : Outcome (List ℕ)) (g : GuestState) (page : List ℕ) → Asked request → Reached g
      → Reached (start_of request g page).state
  from_event : (g : GuestState) (page : List ℕ) → Reached g → Reached (event_of g page).state
