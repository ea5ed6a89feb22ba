-- The host's turn: it reads on, or it carries the request out and writes the whole ack.
use Rattle.octets.specs.Prelude.{◌≡◌, refl, sym, ap, ap₂, subst, ◌∙◌, List, [], ◌++◌, true, false, ℕ, ◌+◌, ◌-◌, ◌≤◌, ◌<◌, arith, length, take, drop}
use Rattle.octets.specs.Prelude.{length-take-le, take_all, take-add, ltb, eq-eqb, le-leb, lt-leb, le-ltb, ltb-true, ltb-false}
use mathlib.Core.Path.{subst₂}
use Rattle.octets.proofs.Truth.{by-test}
use Rattle.messages.specs.Wire.{header_size, type_in, size_in}
use Rattle.messages.specs.Requests.{ack_in, carried_message, Carried}
use Rattle.messages.proofs.Theorems.{ack-fits}
use Rattle.page.specs.Page.{page_size, area_size, requests_at, responses_at, less, advanced, octets_in, put}
use Rattle.ring.specs.Reading.{message_length, whole, received, received_from}
use Rattle.ring.specs.Writing.{fitting, sent_octets, Outgoing}
use Rattle.ring.specs.Streams.{begins_whole, present_part, Holding}
use Rattle.page.proofs.Places.{put-length}
use Rattle.page.proofs.Untouched.{counted-length, counted-octets, counted-cons, counted-prod, put-stands}
use Rattle.ring.proofs.Sides.{less-advanced}
use Rattle.ring.proofs.Holdings.{size-front, part-whole, part-all, holding-whole, holding-received}
use Rattle.interface.specs.Events.{After, waiting, unread, unread_acks, answered_with, owes}
use Rattle.interface.specs.Events.{responded, read_in, carried_in, carried_over, after_read, proceeded, event_of}
use Rattle.backend.specs.Rules.{Accepted, room, after_reading, BecomesWhole}
use Rattle.interface.specs.States.{HostState}
use Rattle.backend.proofs.Stages.{carried-held}
use Rattle.backend.proofs.Theorems.{carried-out}
use Rattle.ends.specs.Ends.{Ends, host_turn}
use Rattle.ends.proofs.Points.{Ready, Sent, Answered}

module _ (m : List ℕ) (long : length m ≡ message_length m) where
  -- the first octets of a message, but not all, are no whole message
  front-waits : (n : ℕ) → n < length m → begins_whole (take n m) ≡ false
  front-waits n some =
      let size : length (take n m) ≡ n = length-take-le n m (omega arith) in
      let waits = lt-leb (message_length (take n m)) (length (take n m)) in
      by-test (λ (_ : ℕ). begins_whole (take n m) ≡ false) (ltb n header_size) 0 0
      (λ t. let short = ltb-true n header_size t in waits (omega arith))
      (λ t. let same : size_in (take n m) ≡ size_in m = size-front n m (ltb-false n header_size t) in waits (omega arith))

  -- all of them are
  all_whole : begins_whole m ≡ true
  all_whole = le-leb (message_length m) (length m) (omega arith)

  -- so the first octets are all read
  front-present : (n : ℕ) → n ≤ length m → present_part (take n m) ≡ take n m
  front-present n within =
      by-test (λ (_ : ℕ). present_part (take n m) ≡ take n m) (ltb n (length m)) 0 0
      (λ t. part-all (take n m) (front-waits n (ltb-true n (length m) t)))
      (λ t. rw (take_all n m (ltb-false n (length m) t)) (part-whole m all_whole ∙ take_all (message_length m) m (omega arith)))

-- an event at which the message does not become whole
event-waits : (s : HostState) (page : List ℕ) → Accepted s page → owes s ≡ false → whole (after_reading s page).incoming.message ≡ false
    → event_of s page ≡ answered_with waiting (after_reading s page) page
unfolding event_of proceeded after_read
event-waits s page ok idle waits =
    rw (eq-eqb _ _ ok.size, le-leb _ _ ok.requests, le-leb _ _ ok.responses, idle, waits) refl

module _ (m : List ℕ) (r n : ℕ) (e : Ends) (sent : Sent m r n e) (long : length m ≡ message_length m) where
  module _ (first : r < length m) (more : r ≤ n) (within : n ≤ length m) (few : n - r ≤ area_size) where
    abbrev h : HostState
    h = e.host

    abbrev t : HostState
    t = after_reading h e.page

    -- what it finds on the page
    finds : unread h e.page ≡ n - r
    finds =
        ap (λ (c : ℕ). less c h.incoming.cons) (sent.req-prod ∙ sent.moved)
        ∙ less-advanced h.incoming.cons (n - r) sent.count (omega arith)

    room-found : unread_acks h e.page ≡ 0
    room-found = omega (arith, sent.responses, sent.rsp-cons, sent.guest.cons)

    accepted : Accepted h e.page
    accepted = record { size = sent.size; requests = rw finds few; responses = rw room-found (omega arith) }

    -- what it then holds of the request, and its count
    holds : Holding t.incoming.message (take n m)
    unfolding read_in received_from
    holds =
        let fresh = octets_in requests_at e.page h.incoming.cons (unread h e.page) in
        let read : fresh ≡ take (n - r) (drop r m) = ap (octets_in requests_at e.page h.incoming.cons) finds ∙ sent.octets in
        let sum : r + (n - r) ≡ n = omega arith in
        let all : take r m ++ fresh ≡ take n m =
        ap (λ (l : List ℕ). take r m ++ l) read ∙ sym (take-add r (n - r) m) ∙ ap (λ (k : ℕ). take k m) sum in
        subst (Holding (received fresh h.incoming.message)) (ap present_part all ∙ front-present m long n within)
        (holding-received fresh h.incoming.message (take r m) sent.held (front-waits m long r first))

    counts : t.incoming.cons ≡ e.guest.req_prod
    unfolding read_in received_from
    counts =
        let now : t.incoming.message.taken ≡ n = holds.count ∙ length-take-le n m within in
        let before : h.incoming.message.taken ≡ r = sent.held.count ∙ length-take-le r m (omega arith) in
        ap (advanced h.incoming.cons) (ap₂ ◌-◌ now before) ∙ sym sent.moved

    -- octets of the request are still to come
    pub reads_on : n < length m → Ready m n (host_turn e) × ((host_turn e).host.settings ≡ h.settings)
    unfolding read_in
    reads_on part =
        let c = t.incoming.cons in
        let p = t.outgoing.prod in
        let waits = holding-whole t.incoming.message (take n m) holds ∙ front-waits m long n part in
        subst (λ (a : After). Ready m n (record { guest = e.guest; host = a.state; page = a.page }) × (a.state.settings ≡ h.settings))
        (sym (event-waits h e.page accepted sent.no-ack waits)) (
          record {
            guest = sent.guest;
            size = counted-length e.page c p ∙ sent.size;
            no-ack = sent.no-ack;
            held = holds;
            requests = counts;
            responses = sent.responses;
            req-cons = counted-cons e.page c p (rw sent.size (omega arith)) (rw counts sent.guest.prod) ∙ counts;
            rsp-prod = counted-prod e.page c p (rw sent.size (omega arith)) (rw sent.responses sent.guest.cons) ∙ sent.responses;
          },
          refl,
        )

    -- carried out, its whole ack is written
    replies : n ≡ length m → let a = responded (carried_over t) e.page (room h e.page) in
        Answered m (ack_in (carried_in t)) (record { guest = e.guest; host = a.state; page = a.page })
        × (a.state.settings ≡ (carried_in t).settings)
    unfolding responded carried_over read_in
    replies all =
        let i = t.incoming.message in
        let ack = (carried_in t).ack in
        let p = t.outgoing.prod in
        let cons = t.incoming.cons in
        let fits = ack-fits t.settings (type_in i.header) (size_in i.header) i.payload in
        let long : length (ack_in (carried_in t)) ≡ ack.length = length-take-le ack.length ack.octets (omega arith) in
        let o : Outgoing = record { octets = ack.octets; length = ack.length; written = 0; prod = p } in
        let k = fitting o (room h e.page) in
        let count : k ≡ ack.length = omega (arith, room-found) in
        let whole : sent_octets o k ≡ ack_in (carried_in t) = ap (λ (j : ℕ). take j ack.octets) count in
        let into = put responses_at e.page p (sent_octets o k) in
        let next = advanced p k in
        let same : length into ≡ page_size = put-length responses_at (sent_octets o k) e.page p ∙ sent.size in (
          record {
            guest = rw all at sent.guest;
            size = counted-length into cons next ∙ same;
            no-ack = le-ltb (0 + k) ack.length (omega arith);
            nothing_read = refl;
            requests = counts;
            responses = ap₂ advanced sent.responses (count ∙ sym long);
            req-cons = counted-cons into cons next (omega arith) (rw counts sent.guest.prod) ∙ counts;
            rsp-prod = counted-prod into cons next (omega arith) (omega arith);
            octets =
                counted-octets responses_at into cons next (length (ack_in (carried_in t))) e.guest.rsp_cons (omega arith)
                ∙ ap₂ (λ (c : ℕ) (l : List ℕ). octets_in responses_at into c (length l)) (sym sent.responses) (sym whole)
                ∙ put-stands responses_at (sent_octets o k) e.page p (rw whole (omega arith)) (omega (arith, sent.size))
                ∙ whole;
          },
          refl,
        )

    -- all of it is read: it is carried out
    pub carries-out : n ≡ length m → Answered m (ack_in (carried_message h.settings m [])) (host_turn e)
        × ((host_turn e).host.settings ≡ (carried_message h.settings m []).settings)
    unfolding read_in
    carries-out all =
        let held : Holding t.incoming.message m = rw (take_all n m (omega arith)) at holds in
        let becomes : BecomesWhole h e.page =
        record { accepted = accepted; idle = sent.no-ack; all = holding-whole t.incoming.message m held ∙ all_whole m long } in
        subst₂ (λ (c : Carried) (a : After). Answered m (ack_in c) (record { guest = e.guest; host = a.state; page = a.page })
        × (a.state.settings ≡ c.settings))
        (carried-held h.settings t.incoming.message m held long) (sym (carried-out h e.page becomes)) (replies all)
