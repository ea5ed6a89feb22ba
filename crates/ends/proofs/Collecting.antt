-- The guest's turn at the ack: it reads the whole of it, and is idle again.
use Rattle.octets.specs.Prelude.{◌≡◌, refl, sym, ap, ap₂, subst, ◌∙◌, List, [], ◌++◌, inl, inr, false, ℕ, ◌+◌, ◌-◌, arith, length}
use Rattle.octets.specs.Prelude.{List·get_d-append, le-ltb}
use Rattle.octets.specs.Outcome.{value}
use Rattle.octets.proofs.Numbers.{number_same}
use Rattle.messages.specs.Wire.{type_in, size_in, payload_in}
use Rattle.messages.specs.Requests.{request_of, ack_in, carried_message}
use Rattle.messages.specs.Settings.{Settings}
use Rattle.messages.proofs.Theorems.{ack-carries-status}
use Rattle.page.specs.Page.{req_cons_at, rsp_prod_at, responses_at, less, advanced, octets_in}
use Rattle.ring.specs.Reading.{message_length, received, received_from, Message}
use Rattle.ring.proofs.Turns.{parts}
use Rattle.ring.proofs.Sides.{less-advanced}
use Rattle.page.proofs.Untouched.{guest-counted-length, guest-counted-others}
use Rattle.interface.specs.States.{Good as GoodHost}
use Rattle.guest_messages.specs.Reader.{answer_to, read_ack}
use Rattle.guest_steps.specs.Guest.{idle, acked, incoming, owes, Good as GoodGuest, GuestState}
use Rattle.guest_steps.specs.Calls.{After, unread_requests, unread_acks, answered_with, judged, seen, done_with, concluded, read_on, event_of}
use Rattle.guest_messages.proofs.Theorems.{reader-accepts-ack}
use Rattle.ends.specs.Ends.{Ends, after_guest, guest_event, answer_of, Agree}
use Rattle.ends.proofs.Points.{Answered}
use Rattle.ends.proofs.Messages.{Ack, received-message, ack-seen, ack-made}
use Rattle.ends.proofs.Writing.{finds, event-reads}

-- what the reader says of the ack to a request carried out
ack-read : (s : Settings) (m : List ℕ) → read_ack (type_in m) (ack_in (carried_message s m [])) ≡ value (answer_of s m)
ack-read s m =
    let t = type_in m in
    let p = payload_in m ++ [] in
    reader-accepts-ack s t (size_in m) p ∙ ap (λ (st : ℕ). value (answer_to (request_of t) st)) (sym (ack-carries-status s t (size_in m) p))

-- the ack to the request m, under settings s, once it stands before the guest
module _ (s : Settings) (m : List ℕ) (e : Ends) (long : length m ≡ message_length m) where
  abbrev ack : List ℕ
  ack = ack_in (carried_message s m [])

  abbrev g : GuestState
  g = e.guest

  abbrev read : Message
  read = received ack (parts g.header g.payload 0)

  module _ (answered : Answered m ack e) where
    -- what is known of the ack, and of the request: nothing of it is owed
    shape : Ack ack
    shape = ack-made s (type_in m) (size_in m) (payload_in m ++ [])

    done : owes g ≡ false
    done = le-ltb g.written g.length (omega (arith, answered.guest.long, answered.guest.written))

    -- the event reads
    event : event_of g e.page ≡ read_on g e.page (length ack)
    event =
        let a = answered.guest in
        let none : unread_requests g e.page ≡ 0 = omega (arith, answered.req-cons, a.prod) in
        let some : unread_acks g e.page ≡ length ack =
        ap (λ (c : ℕ). less c g.rsp_cons) (answered.rsp-prod ∙ answered.responses)
        ∙ less-advanced g.rsp_cons (length ack) a.cons (omega (arith, shape.most)) in
        event-reads g e.page (length ack) a.phase done
        (finds g e.page (length ack) answered.size none some (omega (arith, shape.most)) (rw a.phase refl))

    -- the type that the reader is told is that of the request
    type : type_in g.request ≡ type_in m
    type =
        let rest = answered.guest.rest in
        ap type_in answered.guest.request
        ∙ number_same 4 (m ++ rest) m 0 0 (λ k l. List·get_d-append m rest 0 (0 + k) (omega arith))

    -- what is read is the ack, and it is counted
    message : (received_from responses_at e.page (incoming g) (length ack)).message ≡ read
    unfolding received_from
    message =
        ap₂ (λ (xs : List ℕ) (k : ℕ). received xs (parts g.header g.payload k)) answered.octets answered.guest.nothing_read

    cons : (received_from responses_at e.page (incoming g) (length ack)).cons ≡ e.host.outgoing.prod
    unfolding received_from
    cons =
        let whole = received-message ack g.header g.payload answered.guest.header shape.long in
        let taken : (received (octets_in responses_at e.page g.rsp_cons (length ack)) (incoming g).message).taken ≡ length ack =
        ap (λ (x : Message). x.taken) (message ∙ whole) in
        ap (advanced g.rsp_cons) (ap₂ ◌-◌ taken answered.guest.nothing_read ∙ omega arith) ∙ sym answered.responses

    -- so the ack is accepted
    collects : event_of g e.page ≡ answered_with (acked (answer_of s m)) (done_with g read idle e.host.outgoing.prod) e.page
    unfolding read_on concluded
    collects =
        let a = answered.guest in
        let said : seen (type_in g.request) read ≡ judged (value (answer_of s m)) =
        rw type (ack-seen (type_in m) ack g.header g.payload a.header a.payload shape ∙ ap judged (ack-read s m)) in
        event ∙ rw (message, cons, said) refl

    -- what the guest is told
    pub told-answer : (guest_event e).answer ≡ acked (answer_of s m)
    told-answer = ap (λ (a : After). a.answer) collects

    -- and the ends are idle and agree
    pub agrees : GoodGuest (guest_event e).state → GoodHost e.host → Agree (after_guest e (guest_event e))
    agrees good good_host =
        subst (λ (a : After). GoodGuest a.state → Agree (after_guest e a)) (sym collects)
        (λ sound. record {
          guest = sound;
          host = good_host;
          size = guest-counted-length e.page e.host.outgoing.prod g.req_prod ∙ answered.size;
          no-request = refl;
          no-ack = answered.no-ack;
          nothing_read = answered.nothing_read;
          requests = answered.requests;
          responses = refl;
          req-cons = guest-counted-others e.page e.host.outgoing.prod g.req_prod req_cons_at (inl (omega arith)) ∙ answered.req-cons;
          rsp-prod = guest-counted-others e.page e.host.outgoing.prod g.req_prod rsp_prod_at (inr (omega arith)) ∙ answered.rsp-prod;
        })
        good
