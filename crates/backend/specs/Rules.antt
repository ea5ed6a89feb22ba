-- What the theorems on an event speak of.
use Rattle.std.specs.Prelude.{◌≡◌, ◌⊎◌, ◌+◌, ◌-◌, ◌%◌, ◌≤◌, ◌<◌}
use Rattle.octets.specs.Prelude.{List, true, false, ℕ, length}
use Rattle.page.specs.Page.{page_size, area_size, req_prod_at, rsp_prod_at, requests_at, responses_at}
use Rattle.ring.specs.Reading.{whole}
use Rattle.interface.specs.Events.{After, unread, unread_acks, owes, read_in}
use Rattle.backend.specs.Streams.{written_by}
use Rattle.interface.specs.States.{HostState}

-- an event is accepted: none of the conditions of 3, 4 and 5 holds
pub record Accepted (s : HostState) (page : List ℕ) : Type 0 where
  pub size : length page ≡ page_size
  pub requests : unread s page ≤ area_size
  pub responses : unread_acks s page ≤ area_size

-- how many ack octets then fit, and the state once the octets there are have been read
abbrev pub room : HostState → List ℕ → ℕ
room s page = area_size - unread_acks s page

abbrev pub after_reading : HostState → List ℕ → HostState
after_reading s page = read_in s page (unread s page)

-- an event at which the present message becomes whole: it is accepted, no ack is owed, and once the octets there are have
-- been read the message is whole
pub record BecomesWhole (s : HostState) (page : List ℕ) : Type 0 where
  pub accepted : Accepted s page
  pub idle : owes s ≡ false
  pub all : whole (after_reading s page).incoming.message ≡ true

-- an octet of the page that is of none of the two own counts
abbrev pub NoOwnCount : ℕ → Type 0
NoOwnCount i = ((req_prod_at ≤ i) × (i < rsp_prod_at)) ⊎ (requests_at ≤ i)

-- the place of an ack octet that the event writes
abbrev pub AckPlace : HostState → List ℕ → ℕ → Type 0
AckPlace s page i = (j : ℕ) × (j < length (written_by s page)) × (i ≡ responses_at + (s.outgoing.prod + j) % area_size)

-- two events with the same answer and the same state left
pub record Alike (a b : After) : Type 0 where
  pub answer : a.answer ≡ b.answer
  pub state : a.state ≡ b.state
