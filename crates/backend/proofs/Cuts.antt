-- How the guest cuts its octets into events makes no difference.
use Rattle.octets.specs.Prelude.{◌≡◌, refl, sym, ap, ◌∙◌, List, [], ◌∷◌, ◌++◌, append_assoc, append-nil, true, false, ℕ, ◌^◌, ◌≤◌, ◌<◌, arith}
use Rattle.messages.specs.Settings.{max_queues, settings_at_setup}
use Rattle.page.specs.Page.{requests_at, responses_at, less, octets_in}
use Rattle.ring.specs.Reading.{whole}
use Rattle.ring.specs.Streams.{begins_whole, present_part}
use Rattle.page.proofs.Places.{octets-none}
use Rattle.ring.proofs.Holdings.{holding-none, holding-whole}
use Rattle.interface.specs.States.{Good, interface_at_setup, HostState}
use Rattle.interface.specs.Events.{After, waiting, unread, refused_with, answered_with, owes, responded, read_in, carried_over, event_of}
use Rattle.backend.specs.Streams.{messages_within, rest_within, messages_in, rest_of, settings_after, acks_to, owed_octets, read_by}
use Rattle.backend.specs.Streams.{written_by, state_after, octets_read, octets_written, Served}
use Rattle.backend.specs.Rules.{Accepted, room, after_reading}
use Rattle.backend.proofs.Branches.{event-cases}
use Rattle.backend.proofs.Goodness.{good-interface, good-event, good-carried}
use Rattle.backend.proofs.Falls.{stream-parts, messages-whole, rest_part, falls-so, empty-part}
use Rattle.backend.proofs.Arrivals.{read_to}
use Rattle.backend.proofs.Stages.{written_to, Stands, present-long, stands_read, stands-carried, stands-responded}

-- to have served a stream is to stand where it falls apart, whichever way that is found
stands-served : {q : ℕ} {s : HostState} {read written : List ℕ} {ms : List (List ℕ)} {present : List ℕ}
    → Stands q s read written ms present → begins_whole present ≡ false → Served q s read written
stands-served {ms = ms} {present = present} stands part =
    let falls = rw (← stands.splits) at (falls-so ms present stands.messages part) in
    record { settings = rw falls.0 stands.settings; acks = rw falls.0 stands.acks; present = rw falls.1 stands.held }

-- a new interface has served the empty stream
pub served-none : (q : ℕ) → Served q (interface_at_setup q) [] []
unfolding settings_after acks_to messages_within rest_within
served-none q = record { settings = refl; acks = refl; present = holding-none _ refl refl refl }

-- from a count to itself there are no octets
none_in : (area : ℕ) (page : List ℕ) (c : ℕ) → c < 2 ^ 32 → octets_in area page c (less c c) ≡ []
none_in area page c h =
    let none : less c c ≡ 0 = omega arith in
    rw none (octets-none area page c)

module _ (q : ℕ) (s : HostState) (page read written : List ℕ) (good : Good s) (served : Served q s read written) where
  -- what holds of what an event leaves
  abbrev Serves : After → Type 0
  Serves a = Served q a.state (read ++ read_to s page a.state) (written ++ written_to s a)

  -- the messages of the stream so far, and what is behind them
  abbrev ms : List (List ℕ)
  ms = messages_in read

  abbrev rest : List ℕ
  rest = rest_of read

  stands : Stands q s read written ms rest
  stands =
      record {
        splits = sym (stream-parts read);
        messages = messages-whole read;
        held = served.present;
        settings = served.settings;
        acks = served.acks;
      }

  -- where a count stays, nothing is read or written
  none_read : octets_in requests_at page s.incoming.cons (less s.incoming.cons s.incoming.cons) ≡ []
  none_read = none_in requests_at page s.incoming.cons good.incoming.count

  none_written : (other : List ℕ)
      → octets_in responses_at other s.outgoing.prod (less s.outgoing.prod s.outgoing.prod) ≡ []
  none_written other = none_in responses_at other s.outgoing.prod good.outgoing.count

  -- refused
  serves-refused : (k : ℕ) → Serves (refused_with k s page)
  serves-refused k = rw (none_read, none_written page, append-nil read, append-nil written) served

  -- ack octets written
  serves-owing : Accepted s page → Serves (responded s page (room s page))
  unfolding responded
  serves-owing ok =
      let next = stands-responded stands page (room s page) good.outgoing ok.size in
      rw (none_read, append-nil read) (stands-served next (rest_part read))

  -- octets read
  module _ (ok : Accepted s page) where
    abbrev after : HostState
    after = after_reading s page

    -- the stream then, and what it has behind the messages so far
    abbrev stream : List ℕ
    stream = read ++ read_to s page after

    abbrev behind : List ℕ
    behind = rest ++ octets_in requests_at page s.incoming.cons (unread s page)

    stands_after : Stands q after stream written ms (present_part behind)
    stands_after = stands_read stands page (unread s page) good (rest_part read) ok.requests

    whole-after : begins_whole (present_part behind) ≡ whole after.incoming.message
    whole-after = sym (holding-whole after.incoming.message (present_part behind) stands_after.held)

    -- not whole, and nothing written
    serves-part : whole after.incoming.message ≡ false → Serves (answered_with waiting after page)
    unfolding read_in
    serves-part waits =
        rw (none_written (answered_with waiting after page).page, append-nil written)
        (stands-served stands_after (whole-after ∙ waits))

    -- whole: carried out, and ack octets written
    serves-whole : owes s ≡ false → whole after.incoming.message ≡ true → Serves (responded (carried_over after) page (room s page))
    unfolding read_in carried_over responded
    serves-whole idle all =
        let carried = stands-carried stands_after (present-long behind (whole-after ∙ all)) idle in
        let keeps = (good-carried s page (unread s page) good).outgoing in
        stands-served (stands-responded carried page (room s page) keeps ok.size) (empty-part [] (omega arith))

  -- each event serves the octets that it reads, and writes acks in order
  pub served-event : Served q (event_of s page).state (read ++ read_by s page) (written ++ written_by s page)
  served-event = event-cases s page Serves (λ k x. serves-refused k) (λ ok owing. serves-owing ok) (λ ok idle. serves-part ok) serves-whole

-- and so do events one after the other
served-events : (pages : List (List ℕ)) (q : ℕ) (s : HostState) (read written : List ℕ) → Good s → Served q s read written
    → Served q (state_after s pages) (read ++ octets_read s pages) (written ++ octets_written s pages)
unfolding state_after octets_read octets_written
served-events [] q s read written good served = rw (append-nil read, append-nil written) served
served-events (page ∷ pages) q s read written good served =
    let next = (event_of s page).state in
    rw (
      ← (append_assoc read (read_by s page) (octets_read next pages)),
      ← (append_assoc written (written_by s page) (octets_written next pages)),
    )
    (served-events pages q next (read ++ read_by s page) (written ++ written_by s page) (good-event s page good)
    (served-event q s page read written good served))

-- for any pages given to successive events, hostile ones too: the messages carried out are those into which the stream of
-- octets read falls, in order, each once; the settings are what they leave; and the octets written are their acks in order,
-- up to what is still owed
pub cuts-make-no-difference : (q : ℕ) (pages : List (List ℕ)) → 1 ≤ q → q ≤ max_queues
    → let new = interface_at_setup q in Served q (state_after new pages) (octets_read new pages) (octets_written new pages)
cuts-make-no-difference q pages some most =
    served-events pages q (interface_at_setup q) [] [] (good-interface q some most) (served-none q)

-- so events that read the same stream leave the same settings, and acks that are the same octets
pub same-stream : (q : ℕ) (pages others : List (List ℕ)) → 1 ≤ q → q ≤ max_queues
    → let new = interface_at_setup q in octets_read new pages ≡ octets_read new others
    → ((state_after new pages).settings ≡ (state_after new others).settings)
    × (octets_written new pages ++ owed_octets (state_after new pages) ≡ octets_written new others ++ owed_octets (state_after new others))
same-stream q pages others some most e =
    let one = cuts-make-no-difference q pages some most in
    let other = cuts-make-no-difference q others some most in
    let same = ap messages_in e in (
      one.settings ∙ ap (settings_after (settings_at_setup q)) same ∙ sym other.settings,
      one.acks ∙ ap (acks_to (settings_at_setup q)) same ∙ sym other.acks,
    )
