-- The calls of the guest's end, a start for each request and the event: the answer, the state and every octet of the page.
use Rattle.std.specs.Prelude.{◌++◌, ◌&&◌, ◌||◌, ◌+◌, ◌-◌, Result}
use Rattle.octets.specs.Prelude.{List, Bool, not, cond, ℕ, length, take, drop, eqb, leb}
use Rattle.octets.specs.Outcome.{Outcome, value, refused}
use Rattle.messages.specs.Wire.{header_size, field_size, type_in, size_in}
use Rattle.page.specs.Refusals.{page_wrong, requests_wrong, responses_wrong}
use Rattle.page.specs.Page.{page_size, area_size, req_cons_at, rsp_prod_at, requests_at, responses_at, count_in, less, counted_by_guest, put}
use Rattle.ring.specs.Reading.{whole, received_from, Message, Incoming}
use Rattle.ring.specs.Writing.{fitting, sent_octets, sent}
use Rattle.guest_messages.specs.Refusals.{not_an_ack}
use Rattle.guest_steps.specs.Refusals.{request_outstanding}
use Rattle.guest_messages.specs.Reader.{Reading, read_ack}
use Rattle.guest_messages.specs.Writer.{get_flags_message, set_flags_message, set_key_message, set_mapping_message}
use Rattle.guest_steps.specs.Guest.{idle, outstanding, failed, guest_of, outgoing, incoming, with_outgoing, with_incoming, owes, Told, number}
use Rattle.guest_steps.specs.Guest.{acked, pending, request_owed, told_of, GuestState}
use Rattle.guest_steps.specs.declared.Progress.{Progress}
use Rattle.guest_steps.specs.declared.Refusal.{Refusal}
use Rattle.guest_steps.specs.declared.Ask.{Ask}
use Rattle.guest_steps.specs.declared.Ask.TheVariants.{GetFlags, SetFlags, SetKey, SetMapping}

-- what a call answers, and leaves
pub record After : Type 0 where
  pub answer : Told
  pub state : GuestState
  pub page : List ℕ

-- the octets that the host has not read of the request area, and those unread in the response area. Of the page only
-- req_cons and rsp_prod are read: the other two counts are the guest's own
abbrev pub unread_requests : GuestState → List ℕ → ℕ
unread_requests g page = less g.req_prod (count_in page req_cons_at)

abbrev pub unread_acks : GuestState → List ℕ → ℕ
unread_acks g page = less (count_in page rsp_prod_at) g.rsp_cons

-- what a call finds on the page: the room in the request area, and the octets unread in the response area
pub record Found : Type 0 where
  pub room : ℕ
  pub unread : ℕ

-- or why it is refused: 3, 4, 5 in this order, and with good counts 12 once an ack was refused
unfoldable pub found : GuestState → List ℕ → Outcome Found
found g page =
    cond (eqb (length page) page_size)
    (cond (leb (unread_requests g page) area_size)
    (cond (leb (unread_acks g page) area_size)
    (cond (eqb g.phase failed)
    (refused not_an_ack)
    (value (record { room = area_size - unread_requests g page; unread = unread_acks g page })))
    (refused responses_wrong))
    (refused requests_wrong))
    (refused page_wrong)

-- a refusal: state and page as before
abbrev pub refused_with : ℕ → GuestState → List ℕ → After
refused_with k g page = record { answer = number k; state = g; page = page }

-- a call answered 0, 1 or 2 writes both own counts back
abbrev pub answered_with : Told → GuestState → List ℕ → After
answered_with told g page = record { answer = told; state = g; page = counted_by_guest page g.rsp_cons g.req_prod }

-- as many octets of the request written as fit into `room` octets: 2 while more are owed, then 0
unfoldable pub wrote_on : GuestState → List ℕ → ℕ → After
wrote_on g page room =
    let o = outgoing g in
    let n = fitting o room in
    let next = with_outgoing g (sent o n) in
    answered_with (number (cond (owes next) request_owed pending)) next (put requests_at page o.prod (sent_octets o n))

-- the message of what a driver asks for, or the writer's refusal of it
abbrev pub message_of : Ask → Outcome (List ℕ)
message_of GetFlags = get_flags_message
message_of (SetFlags flags) = set_flags_message flags
message_of (SetKey key) = set_key_message key.now
message_of (SetMapping entries) = set_mapping_message entries.now

-- the guest with a request outstanding, of which nothing is written
abbrev pub begun : GuestState → List ℕ → GuestState
begun g m =
    guest_of outstanding (m ++ drop (length m) g.request) (length m) 0 g.req_prod g.header g.payload g.taken
    g.rsp_cons

-- a start with the message of a request, or with the writer's refusal of it
unfoldable pub started_by : Outcome (List ℕ) → GuestState → List ℕ → ℕ → After
started_by (value m) g page room = wrote_on (begun g m) page room
started_by (refused k) g page room = refused_with k g page

-- what a start finds: the room, or why it is refused, which is 13 while a request is outstanding
unfoldable pub readied : Outcome Found → GuestState → Outcome ℕ
readied (value f) g = cond (eqb g.phase idle) (value f.room) (refused request_outstanding)
readied (refused k) g = refused k

-- a start by what it finds
unfoldable pub start_by : Outcome ℕ → Outcome (List ℕ) → GuestState → List ℕ → After
start_by (value room) request g page = started_by request g page room
start_by (refused k) request g page = refused_with k g page

abbrev pub start_of : Outcome (List ℕ) → GuestState → List ℕ → After
start_of request g page = start_by (readied (found g page) g) request g page

-- an ack refused at its header: the header is there, and its size is neither 8 nor 16
abbrev pub size_wrong : Message → Bool
size_wrong m = leb header_size m.taken && not (eqb (size_in m.header) field_size || eqb (size_in m.header) (field_size + field_size))

-- the octets of a whole message
abbrev pub message_octets : Message → List ℕ
message_octets m = m.header ++ take (size_in m.header) m.payload

-- what is known of an ack: it is not whole; or what the reader says of it
pub data Seen : Type 0 where
  part : Seen
  judged : Outcome Reading → Seen

-- the ack read so far, to a request of type t
unfoldable pub seen : ℕ → Message → Seen
seen t m = cond (size_wrong m) (judged (refused not_an_ack)) (cond (whole m) (judged (read_ack t (message_octets m))) part)

-- a guest that is done with an ack, whose octets it holds: a next ack begins
abbrev pub done_with : GuestState → Message → ℕ → ℕ → GuestState
done_with g m phase rsp_cons =
    guest_of phase g.request g.length g.written g.req_prod m.header m.payload 0 rsp_cons

-- once octets have been read, so that the reading side is i: the ack is not whole, 0; it is accepted, 1, and no request is
-- outstanding; it is refused, 12, own counts and page as before
unfoldable pub concluded : Seen → GuestState → Incoming → List ℕ → After
concluded part g i page = answered_with (number pending) (with_incoming g i) page
concluded (judged (value r)) g i page = answered_with (acked r) (done_with g i.message idle i.cons) page
concluded (judged (refused k)) g i page = refused_with k (done_with g i.message failed g.rsp_cons) page

-- octets of the ack read, of which n stand unread
unfoldable pub read_on : GuestState → List ℕ → ℕ → After
read_on g page n =
    let i = received_from responses_at page (incoming g) n in
    concluded (seen (type_in g.request) i.message) g i page

-- an event by what it finds: without a request, 0 with nothing read; octets owed go first, and then none is read
unfoldable pub event_by : Outcome Found → GuestState → List ℕ → After
event_by (value f) g page =
    cond (eqb g.phase idle)
    (answered_with (number pending) g page)
    (cond (owes g) (wrote_on g page f.room) (read_on g page f.unread))
event_by (refused k) g page = refused_with k g page

abbrev pub event_of : GuestState → List ℕ → After
event_of g page = event_by (found g page) g page

-- what a call answered and left
abbrev pub left : Result Progress Refusal → GuestState → List ℕ → After
left r g page = record { answer = told_of r; state = g; page = page }
