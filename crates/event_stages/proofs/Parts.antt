-- What the stages of an event did, as the definitions say it.
use Rattle.octets.specs.Prelude.{◌≡◌, refl, ap, List, cond, ℕ, ◌-◌, ◌^◌, ◌<◌, arith, ltb}
use Rattle.page.specs.Page.{requests_at, responses_at, advanced, offsets, octets_in, counted, put}
use Rattle.ring.specs.Reading.{received, received_from, Incoming}
use Rattle.ring.specs.Writing.{fitting, sent_octets, sent, Outgoing}
use Rattle.interface.specs.States.{HostState}
use Rattle.interface.specs.Events.{ack_written, ack_owed, with_incoming, with_outgoing, responded, read_in, left}

-- octets of the message read
pub reads : (s : HostState) (page : List ℕ) (n : ℕ) (i : Incoming) → i ≡ received_from requests_at page s.incoming n
    → with_incoming s i ≡ read_in s page n
unfolding read_in
reads s page n i e = ap (with_incoming s) e

-- where none stands unread, reading changes nothing
pub reads-none : (s : HostState) (page : List ℕ) (n : ℕ) → n ≡ 0 → s.incoming.cons < 2 ^ 32 → s ≡ read_in s page n
unfolding read_in received_from received octets_in offsets
reads-none s page n none small =
    let i = s.incoming in
    let same : i.cons ≡ advanced i.cons (i.message.taken - i.message.taken) = omega arith in
    rw none (ap (λ (c : ℕ). with_incoming s (record { message = i.message; cons = c })) same)

-- octets of the ack sent, and the counts written
pub responds : (s : HostState) (page : List ℕ) (room : ℕ) (o : Outgoing) (acked counts : List ℕ) (r : ℕ)
    → o ≡ sent s.outgoing (fitting s.outgoing room)
    → acked ≡ put responses_at page s.outgoing.prod (sent_octets s.outgoing (fitting s.outgoing room))
    → counts ≡ counted acked s.incoming.cons o.prod
    → r ≡ cond (ltb o.written o.length) ack_owed ack_written
    → left r (with_outgoing s o) counts ≡ responded s page room
unfolding responded
responds s page room o acked counts r side octets written answer = rw (answer, written, octets, side) refl
