-- What the guest finds on the page, and a request that it writes.
use Rattle.octets.specs.Prelude.{◌≡◌, refl, sym, ap, ap₂, subst, ◌∙◌, List, true, false, ℕ, ◌+◌, ◌-◌, ◌≤◌, ◌<◌, min, arith, length, take, drop}
use Rattle.octets.specs.Prelude.{length-drop, length-take-le, take-append-le, drop-append-le, eqb, eq-eqb, le-leb, lt-ltb, le-ltb}
use Rattle.octets.specs.Outcome.{value}
use Rattle.page.specs.Page.{page_size, area_size, requests_at, advanced, octets_in, put}
use Rattle.ring.specs.Writing.{fitting, sent_octets}
use Rattle.page.proofs.Places.{put-length}
use Rattle.ring.proofs.Holdings.{holding-none}
use Rattle.page.proofs.Untouched.{put-stands, guest-counted-length, guest-counted-octets, guest-counted-cons, guest-counted-prod}
use Rattle.guest_steps.specs.Guest.{idle, outstanding, failed, outgoing, owes, number, pending, GuestState}
use Rattle.guest_steps.specs.Calls.{After, unread_requests, unread_acks, Found, found, wrote_on, begun, started_by, readied, start_by, start_of}
use Rattle.guest_steps.specs.Calls.{read_on, event_by, event_of}
use Rattle.ends.specs.Ends.{Ends, Agree, after_guest, guest_event, started}
use Rattle.ends.proofs.Points.{Ready, Sent}

-- the whole request area for room, and n octets of acks unread
abbrev pub all_room : ℕ → Found
all_room n = record { room = area_size; unread = n }

module _ (g : GuestState) (page : List ℕ) where
  -- what a guest finds whose request octets are all read
  pub finds : (n : ℕ) → length page ≡ page_size → unread_requests g page ≡ 0 → unread_acks g page ≡ n → n ≤ area_size
      → eqb g.phase failed ≡ false → found g page ≡ value (all_room n)
  unfolding found
  finds n size none some few sound = rw (eq-eqb _ _ size, none, some, le-leb n area_size few, sound) refl

  -- its start; and its event, with octets of the request owed, and with none
  start-writes : (m : List ℕ) (n : ℕ) → g.phase ≡ idle → found g page ≡ value (all_room n)
      → start_of (value m) g page ≡ wrote_on (begun g m) page area_size
  unfolding readied start_by started_by
  start-writes m n rests finds = rw (finds, rests) refl

  event-writes : (n : ℕ) → g.phase ≡ outstanding → owes g ≡ true → found g page ≡ value (all_room n)
      → event_of g page ≡ wrote_on g page area_size
  unfolding event_by
  event-writes n asks owing finds = rw (finds, asks, owing) refl

  pub event-reads : (n : ℕ) → g.phase ≡ outstanding → owes g ≡ false → found g page ≡ value (all_room n)
      → event_of g page ≡ read_on g page n
  unfolding event_by
  event-reads n asks done finds = rw (finds, asks, done) refl

-- octets of the request written, up to the n'-th, into the whole area
module _ (m : List ℕ) (n n' : ℕ) (e : Ends) (ready : Ready m n e) (within : n ≤ length m) (reach : n' ≡ min (n + area_size) (length m)) where
  abbrev g : GuestState
  g = e.guest

  -- how many these are, and which
  count : fitting (outgoing g) area_size ≡ n' - n
  count = omega (arith, ready.guest.long, ready.guest.written)

  octets : sent_octets (outgoing g) (fitting (outgoing g) area_size) ≡ take (n' - n) (drop n m)
  octets =
      ap₂ (λ (i j : ℕ). take i (drop j g.request)) count ready.guest.written
      ∙ rw (ready.guest.request, drop-append-le n m ready.guest.rest within)
      (take-append-le (n' - n) (drop n m) ready.guest.rest (omega (arith, length-drop n m)))

  -- they then stand before the host
  wrote : Sent m n n' (after_guest e (wrote_on g e.page area_size))
  unfolding wrote_on
  wrote =
      let k = fitting (outgoing g) area_size in
      let xs = sent_octets (outgoing g) k in
      let into = put requests_at e.page g.req_prod xs in
      let next = advanced g.req_prod k in
      let long : length xs ≡ n' - n =
      ap length octets ∙ length-take-le (n' - n) (drop n m) (omega (arith, length-drop n m)) in
      let size : length into ≡ page_size = put-length requests_at xs e.page g.req_prod ∙ ready.size in
      record {
        guest =
            record {
              phase = ready.guest.phase;
              rest = ready.guest.rest;
              request = ready.guest.request;
              long = ready.guest.long;
              written = omega (arith, ready.guest.written, count);
              nothing_read = ready.guest.nothing_read;
              header = ready.guest.header;
              payload = ready.guest.payload;
              prod = omega arith;
              cons = ready.guest.cons;
            };
        size = guest-counted-length into g.rsp_cons next ∙ size;
        no-ack = ready.no-ack;
        held = ready.held;
        count = rw ready.requests ready.guest.prod;
        moved = ap₂ advanced (sym ready.requests) count;
        responses = ready.responses;
        req-prod = guest-counted-prod into g.rsp_cons next (omega arith) (omega arith);
        rsp-cons = guest-counted-cons into g.rsp_cons next (omega arith) ready.guest.cons;
        octets =
            guest-counted-octets requests_at into g.rsp_cons next (n' - n) e.host.incoming.cons (omega arith)
            ∙ ap₂ (octets_in requests_at into) ready.requests (sym long)
            ∙ put-stands requests_at xs e.page g.req_prod (omega arith) (omega (arith, ready.size))
            ∙ octets;
      }

  -- with the last of them nothing is owed
  wrote-all : n' ≡ length m → (wrote_on g e.page area_size).answer ≡ number pending
  unfolding wrote_on
  wrote-all all =
      let last = g.written + fitting (outgoing g) area_size in
      let done : g.length ≤ last = omega (arith, ready.guest.long, ready.guest.written, count) in
      rw (le-ltb last g.length done) refl

  -- an event writes them
  event : n < length m → guest_event e ≡ wrote_on g e.page area_size
  event more =
      let a = ready.guest in
      let owing = lt-ltb g.written g.length (omega (arith, a.long, a.written)) in
      event-writes g e.page 0 a.phase owing
      (finds g e.page 0 ready.size (omega (arith, ready.req-cons, a.prod)) (omega (arith, ready.rsp-prod, a.cons)) (omega arith)
      (rw a.phase refl))

  pub writes-on : n < length m → Sent m n n' (after_guest e (guest_event e))
  writes-on more = subst (λ (a : After). Sent m n n' (after_guest e a)) (sym (event more)) wrote

  -- what the guest is told with them
  pub told-pending : n < length m → n' ≡ length m → (guest_event e).answer ≡ number pending
  told-pending more all = ap (λ (a : After). a.answer) (event more) ∙ wrote-all all

module _ (m : List ℕ) (e : Ends) (agree : Agree e) where
  -- ends that are idle and agree are ready for a request
  ready-start : Ready m 0 (record { guest = begun e.guest m; host = e.host; page = e.page })
  ready-start =
      let read = agree.host.incoming in
      record {
        guest =
            record {
              phase = refl;
              rest = drop (length m) e.guest.request;
              request = refl;
              long = refl;
              written = refl;
              nothing_read = agree.guest.at_rest agree.no-request;
              header = agree.guest.ack.header;
              payload = agree.guest.ack.payload;
              prod = agree.guest.request.count;
              cons = agree.guest.ack.count;
            };
        size = agree.size;
        no-ack = agree.no-ack;
        held = holding-none e.host.incoming.message read.header read.payload agree.nothing_read;
        requests = agree.requests;
        responses = agree.responses;
        req-cons = agree.req-cons;
        rsp-prod = agree.rsp-prod;
      }

  -- so a start writes it
  pub starts : (n : ℕ) → n ≡ min area_size (length m) → Sent m 0 n (started m e)
  starts n reach =
      let g = e.guest in
      let prod = agree.guest.request.count in
      let cons = agree.guest.ack.count in
      let there =
      finds g e.page 0 agree.size (omega (arith, agree.req-cons, prod)) (omega (arith, agree.rsp-prod, cons)) (omega arith)
      (rw agree.no-request refl) in
      subst (λ (a : After). Sent m 0 n (after_guest e a)) (sym (start-writes g e.page m 0 agree.no-request there))
      (wrote m 0 n (record { guest = begun g m; host = e.host; page = e.page }) ready-start (omega arith) reach)
