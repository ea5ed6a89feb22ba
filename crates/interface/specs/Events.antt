-- One event: its answer, the state and every octet of the page that it leaves.
use Rattle.std.specs.Prelude.{Result, Ok, Err, ◌-◌}
use Rattle.octets.specs.Prelude.{List, Bool, cond, ℕ, length, eqb, leb, ltb}
use Rattle.messages.specs.Wire.{type_in, size_in}
use Rattle.messages.specs.Requests.{carried_out, Carried}
use Rattle.page.specs.Refusals.{page_wrong, requests_wrong, responses_wrong, page_refusal_number}
use Rattle.page.specs.declared.PageRefusal.{PageRefusal}
use Rattle.page.specs.Page.{page_size, area_size, req_prod_at, rsp_cons_at, requests_at, responses_at, count_in, less, counted, put}
use Rattle.ring.specs.Reading.{whole, received_from, Incoming}
use Rattle.ring.specs.Writing.{fitting, sent_octets, sent, Outgoing}
use Rattle.interface.specs.States.{HostState}
use Rattle.interface.specs.declared.Progress.{Progress}
use Rattle.interface.specs.declared.Progress.TheVariants.{Waiting, Written, Owed}

-- the answers to an event by their numbers: no whole message yet, ack wholly written, ack octets still owed
abbrev pub waiting : ℕ
waiting = 0

abbrev pub ack_written : ℕ
ack_written = 1

abbrev pub ack_owed : ℕ
ack_owed = 2

-- the number that each answer stands for
abbrev pub progress_number : Progress → ℕ
progress_number Waiting = waiting
progress_number Written = ack_written
progress_number Owed = ack_owed

abbrev pub event_number : Result Progress PageRefusal → ℕ
event_number (Ok progress) = progress_number progress
event_number (Err e) = page_refusal_number e

-- what an event answers, and leaves
pub record After : Type 0 where
  pub answer : ℕ
  pub state : HostState
  pub page : List ℕ

-- the octets unread in the request area, and in the response area. Of the page only req_prod and rsp_cons are read: the
-- other two counts are the host's own
abbrev pub unread : HostState → List ℕ → ℕ
unread s page = less (count_in page req_prod_at) s.incoming.cons

abbrev pub unread_acks : HostState → List ℕ → ℕ
unread_acks s page = less s.outgoing.prod (count_in page rsp_cons_at)

-- a refusal: state and page as before
abbrev pub refused_with : ℕ → HostState → List ℕ → After
refused_with k s page = record { answer = k; state = s; page = page }

-- an event answered 0, 1 or 2 writes both own counts back
abbrev pub answered_with : ℕ → HostState → List ℕ → After
answered_with k s page =
    record { answer = k; state = s; page = counted page s.incoming.cons s.outgoing.prod }

-- the state with other parts
abbrev pub with_incoming : HostState → Incoming → HostState
with_incoming s i = record { settings = s.settings; incoming = i; outgoing = s.outgoing }

abbrev pub with_outgoing : HostState → Outgoing → HostState
with_outgoing s o = record { settings = s.settings; incoming = s.incoming; outgoing = o }

-- whether ack octets are owed
abbrev pub owes : HostState → Bool
owes s = ltb s.outgoing.written s.outgoing.length

-- as many octets of the ack written as fit into `room` octets
unfoldable pub responded : HostState → List ℕ → ℕ → After
responded s page room =
    let o = s.outgoing in
    let n = fitting o room in
    let next = with_outgoing s (sent o n) in
    answered_with (cond (owes next) ack_owed ack_written) next (put responses_at page o.prod (sent_octets o n))

-- octets of the present message read, until it is whole or none of the n is left
unfoldable pub read_in : HostState → List ℕ → ℕ → HostState
read_in s page n = with_incoming s (received_from requests_at page s.incoming n)

-- the present message carried out
abbrev pub carried_in : HostState → Carried
carried_in s =
    let m = s.incoming.message in
    carried_out s.settings (type_in m.header) (size_in m.header) m.payload

-- the state once it is: the settings that it leaves, a next message begun, and its ack owed
unfoldable pub carried_over : HostState → HostState
carried_over s =
    let m = s.incoming.message in
    let c = carried_in s in
    record {
      settings = c.settings;
      incoming = record { message = record { header = m.header; payload = m.payload; taken = 0 }; cons = s.incoming.cons };
      outgoing = record { octets = c.ack.octets; length = c.ack.length; written = 0; prod = s.outgoing.prod };
    }

-- once the octets there are have been read: not whole, answer 0; whole, carried out, and as much of its ack written as fits
unfoldable pub after_read : HostState → List ℕ → ℕ → After
after_read s page room = cond (whole s.incoming.message) (responded (carried_over s) page room) (answered_with waiting s page)

-- an event with good counts: if ack octets are owed, they are written, as many as fit, and nothing is read
unfoldable pub proceeded : HostState → List ℕ → ℕ → ℕ → After
proceeded s page n room = cond (owes s) (responded s page room) (after_read (read_in s page n) page room)

-- one event: the refusals 3, 4, 5 in this order, each exactly where its condition is the first that holds
unfoldable pub event_of : HostState → List ℕ → After
event_of s page =
    cond (eqb (length page) page_size)
    (cond (leb (unread s page) area_size)
    (cond (leb (unread_acks s page) area_size)
    (proceeded s page (unread s page) (area_size - unread_acks s page))
    (refused_with responses_wrong s page))
    (refused_with requests_wrong s page))
    (refused_with page_wrong s page)

-- what a call answered, by its number, and left
abbrev pub left : ℕ → HostState → List ℕ → After
left r s page = record { answer = r; state = s; page = page }
