-- Setup gives a good state, and so does every event on a good state.
use Rattle.octets.specs.Prelude.{◌≡◌, refl, ◌∙◌, List, false, ℕ, ◌^◌, ◌≤◌, ◌<◌, arith, length, ltb-false}
use Rattle.messages.specs.Wire.{header_size, max_payload, type_in, size_in}
use Rattle.messages.specs.Requests.{max_ack}
use Rattle.messages.specs.Settings.{max_queues, Good as GoodSettings}
use Rattle.messages.proofs.Theorems.{ack-fits, good-at-setup, good-stays-good}
use Rattle.page.specs.Page.{requests_at, octets_in}
use Rattle.ring.specs.Reading.{whole, received_from}
use Rattle.ring.specs.Writing.{owed}
use Rattle.ring.proofs.Sides.{grown, none-waits, good-received, good-sent, good-incoming-at-setup, good-outgoing-at-setup}
use Rattle.interface.specs.States.{Good, interface_at_setup, HostState}
use Rattle.interface.specs.Events.{After, waiting, refused_with, answered_with, owes, responded, read_in, carried_over, unread, event_of}
use Rattle.backend.specs.Rules.{Accepted, room, after_reading}
use Rattle.backend.proofs.Branches.{Stopped, event-cases}

-- a state that can go on to the end of an event, once octets have been read
pub record Concludes (s : HostState) : Type 0 where
  pub settings : GoodSettings s.settings
  pub carried : Good (carried_over s)
  pub cons : s.incoming.cons < 2 ^ 32
  pub prod : s.outgoing.prod < 2 ^ 32

-- setup
pub good-interface : (q : ℕ) → 1 ≤ q → q ≤ max_queues → Good (interface_at_setup q)
good-interface q some most =
    record {
      settings = good-at-setup q some most;
      incoming = good-incoming-at-setup;
      outgoing = good-outgoing-at-setup;
      in-turn = λ h. absurd (omega arith);
    }

-- after writing: less is owed than before
pub good-responded : (s : HostState) (page : List ℕ) (room : ℕ) → Good s → Good (responded s page room).state
unfolding responded
good-responded s page room good =
    record {
      settings = good.settings;
      incoming = good.incoming;
      outgoing = good-sent s.outgoing room max_ack good.outgoing;
      in-turn = λ h. good.in-turn (omega arith);
    }

-- after reading: the message waits, or it is carried out, the next one begins, and the ack has its place
module _ (s : HostState) (page : List ℕ) (n : ℕ) (good : Good s) where
  pub good-read : owes s ≡ false → whole (read_in s page n).incoming.message ≡ false → Good (read_in s page n)
  unfolding read_in
  good-read idle waits =
      let none : s.outgoing.length ≤ s.outgoing.written = ltb-false _ _ idle in
      let nothing-owed : 0 < owed s.outgoing → ⊥ = λ h. omega arith in
      record {
        settings = good.settings;
        incoming = good-received requests_at page s.incoming n max_payload good.incoming waits;
        outgoing = good.outgoing;
        in-turn = λ h. absurd (nothing-owed h);
      }

  pub good-carried : Good (carried_over (read_in s page n))
  unfolding carried_over read_in received_from
  good-carried =
      let m = (read_in s page n).incoming.message in
      let x = grown (octets_in requests_at page s.incoming.cons n) s.incoming.message in
      let header : length m.header ≡ header_size = x.header ∙ good.incoming.header in
      let payload : length m.payload ≡ max_payload = x.payload ∙ good.incoming.payload in
      let fits = ack-fits s.settings (type_in m.header) (size_in m.header) m.payload in
      record {
        settings = good-stays-good s.settings (type_in m.header) (size_in m.header) m.payload good.settings (omega arith);
        incoming = record { header = header; payload = payload; waiting = none-waits m.header; count = omega arith };
        outgoing = record { size = fits.0; within = omega arith; short = fits.1; count = good.outgoing.count };
        in-turn = λ h. refl;
      }

  -- what carrying out asks of the state
  pub read-concludes : Concludes (read_in s page n)
  unfolding read_in received_from
  read-concludes = record { settings = good.settings; carried = good-carried; cons = omega arith; prod = good.outgoing.count }

over-prod : (s : HostState) (page : List ℕ) → (carried_over (after_reading s page)).outgoing.prod ≡ s.outgoing.prod
unfolding carried_over read_in
over-prod s page = refl

-- the ways of an event on a good state: octets of an ack are written by a good state t, or the message waits
pub good-ways : (s : HostState) (page : List ℕ) → Good s → (P : After → Type 0) → ((k : ℕ) → Stopped s page k → P (refused_with k s page))
    → (Accepted s page → (t : HostState) → t.outgoing.prod ≡ s.outgoing.prod → Good t → P (responded t page (room s page)))
    → (Accepted s page → Good (after_reading s page) → P (answered_with waiting (after_reading s page) page))
    → P (event_of s page)
good-ways s page good P stopped responds waits =
    event-cases s page P stopped (λ ok owing. responds ok s refl good)
    (λ ok idle part. waits ok (good-read s page (unread s page) good idle part))
    (λ ok idle all. responds ok (carried_over (after_reading s page)) (over-prod s page) (good-carried s page (unread s page) good))

pub good-event : (s : HostState) (page : List ℕ) → Good s → Good (event_of s page).state
good-event s page good =
    good-ways s page good (λ (a : After). Good a.state) (λ k x. good) (λ ok t same well. good-responded t page _ well) (λ ok well. well)
