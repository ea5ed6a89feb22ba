-- The guest's end of the ring: its state, at setup and from then on, and what its calls answer.
use Rattle.std.specs.Prelude.{◌≡◌, ◌≤◌, ◌<◌, Result, Ok, Err}
use Rattle.octets.specs.Prelude.{List, Bool, ℕ, replicate, ltb}
use Rattle.messages.specs.Wire.{header_size}
use Rattle.page.specs.Refusals.{page_refusal_number}
use Rattle.ring.specs.Reading.{incoming_of, GoodIncoming, Incoming}
use Rattle.ring.specs.Writing.{outgoing_of, owed, GoodOutgoing, Outgoing}
use Rattle.guest_messages.specs.Refusals.{not_an_ack}
use Rattle.guest_steps.specs.Refusals.{request_outstanding}
use Rattle.guest_messages.specs.Reader.{Reading, reading_in}
use Rattle.guest_steps.specs.declared.Guest.{Guest}
use Rattle.guest_steps.specs.declared.Refusal.{Refusal}
use Rattle.guest_steps.specs.declared.Refusal.TheVariants.{Page, AckRefused, Outstanding}
use Rattle.guest_steps.specs.declared.Progress.{Progress}
use Rattle.guest_steps.specs.declared.Progress.TheVariants.{Pending, RequestOwed, Acked}

-- the most octets of a request, and of an ack's payload
abbrev pub max_request : ℕ
max_request = 1032

abbrev pub max_ack_payload : ℕ
max_ack_payload = 16

-- the phases: no request is outstanding; one is; an ack was refused, which only a new setup ends
abbrev pub idle : ℕ
idle = 0

abbrev pub outstanding : ℕ
outstanding = 1

abbrev pub failed : ℕ
failed = 2

-- the state of a guest, as the rules speak of it: its phase; the present request, of `length` octets, of which `written` are
-- on the page, with the own req_prod; and what has been read of its ack, with the own rsp_cons
pub record GuestState : Type 0 where
  pub phase : ℕ
  pub request : List ℕ
  pub length : ℕ
  pub written : ℕ
  pub req_prod : ℕ
  pub header : List ℕ
  pub payload : List ℕ
  pub taken : ℕ
  pub rsp_cons : ℕ

-- a guest by its parts
abbrev pub guest_of : ℕ → List ℕ → ℕ → ℕ → ℕ → List ℕ → List ℕ → ℕ → ℕ → GuestState
guest_of phase request size written req_prod header payload taken rsp_cons =
    record {
      phase = phase;
      request = request;
      length = size;
      written = written;
      req_prod = req_prod;
      header = header;
      payload = payload;
      taken = taken;
      rsp_cons = rsp_cons;
    }

-- the state that the struct of a guest holds
abbrev pub state_of : Guest → GuestState
state_of g =
    guest_of g.phase g.request g.outgoing.length g.outgoing.written g.outgoing.prod g.header g.payload g.incoming.taken g.incoming.cons

-- its two sides: the request that it writes, with its own req_prod, and the ack that it reads, with its own rsp_cons
abbrev pub outgoing : GuestState → Outgoing
outgoing g = outgoing_of g.request g.length g.written g.req_prod

abbrev pub incoming : GuestState → Incoming
incoming g = incoming_of g.header g.payload g.taken g.rsp_cons

-- the guest with another of them
abbrev pub with_outgoing : GuestState → Outgoing → GuestState
with_outgoing g o =
    guest_of g.phase o.octets o.length o.written o.prod g.header g.payload g.taken g.rsp_cons

abbrev pub with_incoming : GuestState → Incoming → GuestState
with_incoming g i =
    guest_of g.phase g.request g.length g.written g.req_prod i.message.header i.message.payload
    i.message.taken i.cons

-- whether octets of the request are owed
abbrev pub owes : GuestState → Bool
owes g = ltb g.written g.length

-- at setup: no request, nothing read, both own counts 0
abbrev pub guest_at_setup : GuestState
guest_at_setup = guest_of idle (replicate max_request 0) 0 0 0 (replicate header_size 0) (replicate max_ack_payload 0) 0 0

-- a good state: what holds of a guest from setup on
pub record Good (g : GuestState) : Type 0 where
  pub phase : g.phase ≤ failed
  pub request : GoodOutgoing max_request (outgoing g)
  pub ack : GoodIncoming max_ack_payload (incoming g)
  -- while no request is outstanding, or octets of one are owed, nothing of an ack has been read
  pub at_rest : g.phase ≡ idle → g.taken ≡ 0
  pub in-turn : 0 < owed (outgoing g) → g.taken ≡ 0

-- what a call answers, by its number: 0, 2 or a refusal alone; or 1, with what the ack says
pub data Told : Type 0 where
  number : ℕ → Told
  acked : Reading → Told

-- no ack yet, or no request; the ack is here; octets of the request are still owed
abbrev pub pending : ℕ
pending = 0

abbrev pub ack_read : ℕ
ack_read = 1

abbrev pub request_owed : ℕ
request_owed = 2

abbrev pub told_number : Told → ℕ
told_number (number k) = k
told_number (acked r) = ack_read

-- the number that each refusal stands for, and the number and values of each answer
abbrev pub refusal_number : Refusal → ℕ
refusal_number (Page e) = page_refusal_number e
refusal_number AckRefused = not_an_ack
refusal_number Outstanding = request_outstanding

abbrev pub told_by : Progress → Told
told_by Pending = number pending
told_by RequestOwed = number request_owed
told_by (Acked ack) = acked (reading_in ack)

abbrev pub progress_number : Progress → ℕ
progress_number p = told_number (told_by p)

abbrev pub told_of : Result Progress Refusal → Told
told_of (Ok p) = told_by p
told_of (Err r) = number (refusal_number r)
