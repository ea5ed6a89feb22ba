-- A message, and octets of it put into an area. A writing side is that of either end.
use Rattle.std.specs.Prelude.{◌≡◌, ◌+◌, ◌-◌, ◌^◌, ◌≤◌, ◌<◌}
use Rattle.octets.specs.Prelude.{List, ℕ, min, length, take, drop, replicate}
use Rattle.messages.specs.Requests.{max_ack}
use Rattle.page.specs.Page.{advanced}
use Rattle.ring.specs.declared.sending.Sending.{Sending}

-- a writing side: a message of `length` octets, of which `written` are on the page, and the count of octets written
pub record Outgoing : Type 0 where
  pub octets : List ℕ
  pub length : ℕ
  pub written : ℕ
  pub prod : ℕ

-- the writing side by its parts
abbrev pub outgoing_of : List ℕ → ℕ → ℕ → ℕ → Outgoing
outgoing_of octets size written prod = record { octets = octets; length = size; written = written; prod = prod }

-- the writing side that a struct holds, with the octets of the message, which stand elsewhere
abbrev pub outgoing_in : Sending → List ℕ → Outgoing
outgoing_in s octets = outgoing_of octets s.length s.written s.prod

-- how many octets of the message are still owed, and how many of them fit into `room` octets
abbrev pub owed : Outgoing → ℕ
owed o = o.length - o.written

abbrev pub fitting : Outgoing → ℕ → ℕ
fitting o room = min room (owed o)

-- the next n octets of the message
abbrev pub sent_octets : Outgoing → ℕ → List ℕ
sent_octets o n = take n (drop o.written o.octets)

-- the writing side with n octets more written
abbrev pub sent : Outgoing → ℕ → Outgoing
sent o n =
    record { octets = o.octets; length = o.length; written = o.written + n; prod = advanced o.prod n }

-- the host's at setup: no ack
abbrev pub outgoing_at_setup : Outgoing
outgoing_at_setup = record { octets = replicate max_ack 0; length = 0; written = 0; prod = 0 }

-- what holds of a writing side with a place for so many octets: no more of the message is written than it has, and it has
-- its place
pub record GoodOutgoing (most : ℕ) (o : Outgoing) : Type 0 where
  pub size : length o.octets ≡ most
  pub within : o.written ≤ o.length
  pub short : o.length ≤ most
  pub count : o.prod < 2 ^ 32
