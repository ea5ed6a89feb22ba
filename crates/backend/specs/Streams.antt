-- Events one after the other: the stream of octets that they read, the messages into which it falls, and the acks.
use Rattle.std.specs.Prelude.{◌≡◌, ◌∷◌, ◌++◌, ◌≤◌}
use Rattle.octets.specs.Prelude.{List, [], cond, ℕ, zero, suc, length, take, drop}
use Rattle.messages.specs.Settings.{max_queues, settings_at_setup, Settings}
use Rattle.messages.specs.Requests.{ack_in, carried_message}
use Rattle.page.specs.Page.{requests_at, responses_at, less, octets_in}
use Rattle.ring.specs.Reading.{message_length}
use Rattle.ring.specs.Streams.{begins_whole, first_message, behind_first, Holding}
use Rattle.interface.specs.States.{interface_at_setup, HostState}
use Rattle.interface.specs.Events.{event_of}

-- the messages into which a stream falls, at most n of them, and what is behind them
unfoldable pub messages_within : ℕ → List ℕ → List (List ℕ)
messages_within zero xs = []
messages_within (suc n) xs = cond (begins_whole xs) (first_message xs ∷ messages_within n (behind_first xs)) []

unfoldable pub rest_within : ℕ → List ℕ → List ℕ
rest_within zero xs = xs
rest_within (suc n) xs = cond (begins_whole xs) (rest_within n (behind_first xs)) xs

-- all of them: no message is empty, so there are no more than octets
abbrev pub messages_in : List ℕ → List (List ℕ)
messages_in xs = messages_within (length xs) xs

abbrev pub rest_of : List ℕ → List ℕ
rest_of xs = rest_within (length xs) xs

-- lists one after the other, and lists that are messages each: as long as its header says
unfoldable pub joined : List (List ℕ) → List ℕ
joined [] = []
joined (m ∷ ms) = m ++ joined ms

pub data Messages : List (List ℕ) → Type 0 where
  none : Messages []
  more : (m : List ℕ) (ms : List (List ℕ)) → length m ≡ message_length m → Messages ms → Messages (m ∷ ms)

-- the settings that carrying out messages in order leaves, and their acks in order
unfoldable pub settings_after : Settings → List (List ℕ) → Settings
settings_after s [] = s
settings_after s (m ∷ ms) = settings_after (carried_message s m []).settings ms

unfoldable pub acks_to : Settings → List (List ℕ) → List ℕ
acks_to s [] = []
acks_to s (m ∷ ms) = ack_in (carried_message s m []) ++ acks_to (carried_message s m []).settings ms

-- the octets that an event reads: those of the request area from the own req_cons before it to that after it
abbrev pub read_by : HostState → List ℕ → List ℕ
read_by s page =
    octets_in requests_at page s.incoming.cons
    (less (event_of s page).state.incoming.cons s.incoming.cons)

-- and the octets that it writes: those that then stand in the response area, from the own rsp_prod before it to that after it
abbrev pub written_by : HostState → List ℕ → List ℕ
written_by s page =
    octets_in responses_at (event_of s page).page s.outgoing.prod
    (less (event_of s page).state.outgoing.prod s.outgoing.prod)

-- events one after the other, each on the page that it is given: the state left, and all octets read and written
unfoldable pub state_after : HostState → List (List ℕ) → HostState
state_after s [] = s
state_after s (page ∷ pages) = state_after (event_of s page).state pages

unfoldable pub octets_read : HostState → List (List ℕ) → List ℕ
octets_read s [] = []
octets_read s (page ∷ pages) = read_by s page ++ octets_read (event_of s page).state pages

unfoldable pub octets_written : HostState → List (List ℕ) → List ℕ
octets_written s [] = []
octets_written s (page ∷ pages) = written_by s page ++ octets_written (event_of s page).state pages

-- the octets of the ack that are still owed
abbrev pub owed_octets : HostState → List ℕ
owed_octets s = drop s.outgoing.written (take s.outgoing.length s.outgoing.octets)

-- an interface with q queues that has served the stream `read`: its settings are what the messages of the stream leave,
-- carried out in order, each once; the octets written are their acks in order, up to what is still owed; and of the
-- message that is not whole yet it holds what the stream has of it
pub record Served (q : ℕ) (s : HostState) (read written : List ℕ) : Type 0 where
  pub settings : s.settings ≡ settings_after (settings_at_setup q) (messages_in read)
  pub acks : written ++ owed_octets s ≡ acks_to (settings_at_setup q) (messages_in read)
  pub present : Holding s.incoming.message (rest_of read)

-- a state that calls reach from setup
pub data Reached : HostState → Type 0 where
  from_set_up : (q : ℕ) → 1 ≤ q → q ≤ max_queues → Reached (interface_at_setup q)
  from_event : (s : HostState) (page : List ℕ) → Reached s → Reached (event_of s page).state
