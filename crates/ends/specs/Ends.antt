-- The two ends of a ring and the page between them: the guest starts a request, and then host and guest take turns.
use Rattle.std.specs.Prelude.{◌≡◌, ◌∷◌}
use Rattle.octets.specs.Prelude.{List, [], false, cond, ℕ, zero, suc, length, replicate, leb}
use Rattle.octets.specs.Outcome.{Outcome, value}
use Rattle.messages.specs.Wire.{type_in}
use Rattle.messages.specs.Requests.{request_of, ack_status, carried_message}
use Rattle.messages.specs.Settings.{Settings}
use Rattle.page.specs.Page.{page_size, area_size, req_cons_at, rsp_prod_at, count_in}
use Rattle.interface.specs.States.{interface_at_setup, Good as GoodHost, HostState}
use Rattle.interface.specs.Events.{event_of as host_event_of, owes as host_owes}
use Rattle.backend.specs.Streams.{settings_after}
use Rattle.guest_messages.specs.Reader.{Reading, answer_to}
use Rattle.guest_steps.specs.Guest.{idle, guest_at_setup, Told, number, acked, pending, Good as GoodGuest, GuestState}
use Rattle.guest_steps.specs.Calls.{After, start_of, event_of}
use Rattle.frontend.specs.Rules.{Asked}

-- both ends and the page between them
pub record Ends : Type 0 where
  pub guest : GuestState
  pub host : HostState
  pub page : List ℕ

-- fresh from setup, with q queues, on a zeroed page
abbrev pub fresh_ends : ℕ → Ends
fresh_ends q = record { guest = guest_at_setup; host = interface_at_setup q; page = replicate page_size 0 }

-- the ends after a call of the guest, and after an event of the host
abbrev pub after_guest : Ends → After → Ends
after_guest e a = record { guest = a.state; host = e.host; page = a.page }

abbrev pub host_turn : Ends → Ends
host_turn e = let a = host_event_of e.host e.page in record { guest = e.guest; host = a.state; page = a.page }

-- the guest starts the request with the message m
abbrev pub start : List ℕ → Ends → After
start m e = start_of (value m) e.guest e.page

abbrev pub started : List ℕ → Ends → Ends
started m e = after_guest e (start m e)

-- a round: an event of the host and then one of the guest
abbrev pub guest_event : Ends → After
guest_event e = event_of e.guest e.page

unfoldable pub round : Ends → Ends
round e = after_guest (host_turn e) (guest_event (host_turn e))

-- what the guest is told in a round
unfoldable pub told_in : Ends → Told
told_in e = (guest_event (host_turn e)).answer

-- rounds one after the other: the ends then, and what the guest is told in each
unfoldable pub after_rounds : ℕ → Ends → Ends
after_rounds zero e = e
after_rounds (suc n) e = after_rounds n (round e)

unfoldable pub told_in_rounds : ℕ → Ends → List Told
told_in_rounds zero e = []
told_in_rounds (suc n) e = told_in e ∷ told_in_rounds n (round e)

-- a message that the writer makes of a request that it accepts
abbrev pub Made : List ℕ → Type 0
Made m = (request : Outcome (List ℕ)) × Asked request × (request ≡ value m)

-- the rounds that a request takes: one if the request area holds all its octets, else two
abbrev pub rounds_for : List ℕ → ℕ
rounds_for m = cond (leb (length m) area_size) 1 2

-- what carrying out a message under settings s says to the guest: the status of its ack, and any flags
abbrev pub answer_of : Settings → List ℕ → Reading
answer_of s m = answer_to (request_of (type_in m)) (ack_status (carried_message s m []))

-- what the guest is told in these rounds: 0 before the last, and 1 with the answer in the last
abbrev pub expected : Settings → List ℕ → List Told
expected s m = cond (leb (length m) area_size) (acked (answer_of s m) ∷ []) (number pending ∷ acked (answer_of s m) ∷ [])

-- the ends once a request is finished
abbrev pub finished : Ends → List ℕ → Ends
finished e m = after_rounds (rounds_for m) (started m e)

-- the ends are idle and agree: no request is outstanding, no ack is owed, nothing of a request is read; each end has read
-- what the other has written, and the page says so of the host's counts, which are the ones that the guest reads there
pub record Agree (e : Ends) : Type 0 where
  pub guest : GoodGuest e.guest
  pub host : GoodHost e.host
  pub size : length e.page ≡ page_size
  pub no-request : e.guest.phase ≡ idle
  pub no-ack : host_owes e.host ≡ false
  pub nothing_read : e.host.incoming.message.taken ≡ 0
  pub requests : e.host.incoming.cons ≡ e.guest.req_prod
  pub responses : e.host.outgoing.prod ≡ e.guest.rsp_cons
  pub req-cons : count_in e.page req_cons_at ≡ e.guest.req_prod
  pub rsp-prod : count_in e.page rsp_prod_at ≡ e.guest.rsp_cons

-- a request served: the guest is told what is expected, the host's settings are those that carrying it out leaves, and the
-- ends are idle and agree again
pub record Served (e : Ends) (m : List ℕ) : Type 0 where
  pub told : told_in_rounds (rounds_for m) (started m e) ≡ expected e.host.settings m
  pub settings : (finished e m).host.settings ≡ (carried_message e.host.settings m []).settings
  pub agree : Agree (finished e m)

-- messages that are each made by the writer
pub data AllMade : List (List ℕ) → Type 0 where
  none : AllMade []
  more : (m : List ℕ) (ms : List (List ℕ)) → Made m → AllMade ms → AllMade (m ∷ ms)

-- requests one after the other on the same page: what the guest is told of each, and the ends after all
unfoldable pub told_of_all : Ends → List (List ℕ) → List (List Told)
told_of_all e [] = []
told_of_all e (m ∷ ms) = told_in_rounds (rounds_for m) (started m e) ∷ told_of_all (finished e m) ms

unfoldable pub finished_all : Ends → List (List ℕ) → Ends
finished_all e [] = e
finished_all e (m ∷ ms) = finished_all (finished e m) ms

-- and what is expected of each, under the settings that those before it leave
unfoldable pub expected_of_all : Settings → List (List ℕ) → List (List Told)
expected_of_all s [] = []
expected_of_all s (m ∷ ms) = expected s m ∷ expected_of_all (carried_message s m []).settings ms

-- every request served
pub record AllServed (e : Ends) (ms : List (List ℕ)) : Type 0 where
  pub told : told_of_all e ms ≡ expected_of_all e.host.settings ms
  pub settings : (finished_all e ms).host.settings ≡ settings_after e.host.settings ms
  pub agree : Agree (finished_all e ms)
