-- The fields of an interface stored at their places: what is then held is its state with those values.
use Rattle.octets.specs.Prelude.{◌≡◌, refl, List, cond, ℕ, ◌+◌, ltb}
use Rattle.messages.specs.Settings.{settings_of}
use Rattle.messages.specs.Requests.{Carried, carried_as}
use Rattle.ring.specs.Reading.{incoming_of}
use Rattle.page.specs.Page.{responses_at, advanced, counted, put}
use Rattle.ring.specs.Writing.{outgoing_in, outgoing_of, fitting, sent_octets}
use Rattle.interface.specs.declared.Interface.{Interface}
use Rattle.interface.specs.States.{state_of, HostState}
use Rattle.interface.specs.Events.{ack_written, ack_owed, with_incoming, with_outgoing, responded, left}
use Rattle.event_stages.proofs.Parts.{responds}

-- the state with what a request carried out gives
abbrev pub over : HostState → Carried → HostState
over s c =
    let m = s.incoming.message in
    record {
      settings = c.settings;
      incoming = record { message = record { header = m.header; payload = m.payload; taken = 0 }; cons = s.incoming.cons };
      outgoing = record { octets = c.ack.octets; length = c.ack.length; written = 0; prod = s.outgoing.prod };
    }

module _ (i : Interface) where
  -- octets taken and own req_cons, with another message
  pub stored-incoming : (taken cons : ℕ) (header' payload' : List ℕ)
      → state_of (record i { incoming = record { taken = taken; cons = cons }; header = header'; payload = payload' })
      ≡ with_incoming (state_of i) (incoming_of header' payload' taken cons)
  stored-incoming taken cons header' payload' = refl

  -- octets of the ack written and own rsp_prod
  pub stored-outgoing : (written prod : ℕ)
      → state_of (record i { outgoing = record i.outgoing { written = written; prod = prod } })
      ≡ with_outgoing (state_of i) (outgoing_of i.ack i.outgoing.length written prod)
  stored-outgoing written prod = refl

  -- what a request carried out leaves: its settings and its ack, and a next message begun
  pub stored-carried : (flags count size : ℕ) (ack' key' entries' : List ℕ)
      → state_of
      (record i {
        flags = flags;
        entry_count = count;
        incoming = record i.incoming { taken = 0 };
        outgoing = record i.outgoing { length = size; written = 0 };
        ack = ack';
        key = key';
        entries = entries';
      })
      ≡ over (state_of i) (carried_as (settings_of i.queues flags key' entries' count) ack' size)
  stored-carried flags count size ack' key' entries' = refl

  -- octets of the ack sent and counted there, and the counts written
  pub stored-responds : (page octets : List ℕ) (room n written prod : ℕ) (r : ℕ)
      → written ≡ i.outgoing.written + n → prod ≡ advanced i.outgoing.prod n → n ≡ fitting (outgoing_in i.outgoing i.ack) room
      → octets ≡ counted (put responses_at page i.outgoing.prod (sent_octets (outgoing_in i.outgoing i.ack) n)) i.incoming.cons prod
      → r ≡ cond (ltb written i.outgoing.length) ack_owed ack_written
      → left r (state_of (record i { outgoing = record i.outgoing { written = written; prod = prod } })) octets
      ≡ responded (state_of i) page room
  stored-responds page octets room n written prod r ew ep fits eo answer =
      responds (state_of i) page room (outgoing_of i.ack i.outgoing.length written prod)
      (put responses_at page i.outgoing.prod (sent_octets (outgoing_in i.outgoing i.ack) n)) octets r (rw (ew, ep, fits) refl)
      (rw fits refl) eo answer
