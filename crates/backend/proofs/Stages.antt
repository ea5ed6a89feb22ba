-- The stages of an event: octets read, the message carried out, its ack written. Each keeps to the stream.
use Rattle.octets.specs.Prelude.{◌≡◌, refl, sym, ap, ap₂, ◌∙◌, List, [], ◌∷◌, ◌++◌, append_assoc, append-nil, Bool, false≢true, true, false, ℕ, ◌+◌}
use Rattle.octets.specs.Prelude.{◌-◌, ◌≤◌, arith, length, take, drop, length-take, length-drop, take-append-drop, drop_of_length-le, length-take-le}
use Rattle.octets.specs.Prelude.{take_all, take-append-le, drop-append-le, drop-drop, get_or-take, leb, leb-true, leb-false, ltb-false}
use Rattle.octets.proofs.Numbers.{number_same}
use Rattle.messages.specs.Wire.{header_size, max_payload, type_in, size_in, payload_in}
use Rattle.messages.specs.Settings.{settings_at_setup, Settings}
use Rattle.messages.specs.Requests.{max_ack, carried_out, carried_message}
use Rattle.messages.proofs.Theorems.{header-bounds-payload, header-alone}
use Rattle.page.specs.Page.{page_size, area_size, requests_at, responses_at, less, octets_in, put}
use Rattle.ring.specs.Writing.{owed, fitting, sent_octets, GoodOutgoing, Outgoing}
use Rattle.ring.specs.Reading.{message_length, Message}
use Rattle.ring.specs.Streams.{begins_whole, present_part, Holding}
use Rattle.page.proofs.Untouched.{counted-octets}
use Rattle.octets.proofs.Truth.{by-test}
use Rattle.ring.proofs.Sides.{sent-stands}
use Rattle.ring.proofs.Holdings.{size-take, holding-none, holding-header}
use Rattle.interface.specs.States.{Good, HostState}
use Rattle.interface.specs.Events.{After, owes, responded, read_in, carried_in, carried_over}
use Rattle.backend.specs.Streams.{joined, Messages, settings_after, acks_to, owed_octets}
use Rattle.backend.proofs.Arrivals.{read_to, read_held, read-octets}
use Rattle.backend.proofs.Falls.{first-long, joined_snoc, messages-snoc, settings-snoc, acks-snoc}

-- the octets written on the way from s to what an event leaves
abbrev pub written_to : HostState → After → List ℕ
written_to s a =
    octets_in responses_at a.page s.outgoing.prod (less a.state.outgoing.prod s.outgoing.prod)

-- the stream `read` is the messages ms, all carried out, and the present message so far
pub record Stands (q : ℕ) (s : HostState) (read written : List ℕ) (ms : List (List ℕ)) (present : List ℕ) : Type 0 where
  pub splits : read ≡ joined ms ++ present
  pub messages : Messages ms
  pub held : Holding s.incoming.message present
  pub settings : s.settings ≡ settings_after (settings_at_setup q) ms
  pub acks : written ++ owed_octets s ≡ acks_to (settings_at_setup q) ms

-- a present message that is whole is a message
pub present-long : (xs : List ℕ) → begins_whole (present_part xs) ≡ true → length (present_part xs) ≡ message_length (present_part xs)
unfolding present_part
present-long xs =
    by-test (λ (l : List ℕ). begins_whole l ≡ true → length l ≡ message_length l) (begins_whole xs) _ _ (λ e _. first-long xs e)
    (λ e w. absurd (false≢true (sym e ∙ w)))

-- the message held is carried out as the octets read are
module _ (st : Settings) (m : Message) (xs : List ℕ) (held : Holding m xs) (long : length xs ≡ message_length xs) where
  type-held : type_in m.header ≡ type_in xs
  type-held =
      ap type_in (holding-header m xs held (omega arith))
      ∙ number_same 4 (take header_size xs) xs 0 0 (λ k l. get_or-take header_size xs (0 + k) 0 (omega arith))

  size-held : size_in m.header ≡ size_in xs
  size-held = ap size_in (holding-header m xs held (omega arith)) ∙ size-take xs

  payload-held : size_in xs ≤ max_payload → take (size_in xs) m.payload ≡ take (size_in xs) (payload_in xs)
  payload-held h =
      let count : size_in xs ≡ length xs - header_size = omega arith in
      let size : length (payload_in xs) ≡ length xs - header_size = length-drop header_size xs in
      ap (λ (n : ℕ). take n m.payload) count
      ∙ held.payload
      ∙ take_all max_payload (payload_in xs) (omega arith)
      ∙ sym (take_all (size_in xs) (payload_in xs) (omega arith))

  pub carried-held : carried_out st (type_in m.header) (size_in m.header) m.payload ≡ carried_message st xs []
  carried-held =
      let carried = carried_out st (type_in xs) (size_in xs) in
      rw (type-held, size-held, append-nil)
      (by-test (λ (_ : Bool). carried m.payload ≡ carried (payload_in xs)) (leb (size_in xs) max_payload) true false
      (λ e. header-bounds-payload st (type_in xs) (size_in xs) m.payload (payload_in xs) (payload-held (leb-true _ _ e)))
      (λ e. header-alone st (type_in xs) (size_in xs) m.payload (payload_in xs) (leb-false _ _ e)))

-- octets of an ack sent, and those that are still owed, are those that were
sent-rest : (o : Outgoing) (n : ℕ) → GoodOutgoing max_ack o → n ≤ owed o
    → sent_octets o n ++ drop (o.written + n) (take o.length o.octets) ≡ drop o.written (take o.length o.octets)
sent-rest o n good h =
    let front = take o.length o.octets in
    let back = drop o.length o.octets in
    let size : length front ≡ o.length = length-take-le o.length o.octets (omega arith) in
    let left : length (drop o.written front) ≡ length front - o.written = length-drop o.written front in
    let sent : sent_octets o n ≡ take n (drop o.written front) =
    ap (λ (l : List ℕ). take n (drop o.written l)) (sym (take-append-drop o.length o.octets))
    ∙ ap (take n) (drop-append-le o.written front back (omega arith))
    ∙ take-append-le n (drop o.written front) back (omega arith) in
    ap₂ (λ (xs ys : List ℕ). xs ++ ys) sent (sym (drop-drop n o.written front)) ∙ take-append-drop n (drop o.written front)

-- they then stand in the response area
written-sent : (s : HostState) (page : List ℕ) (room : ℕ) → GoodOutgoing max_ack s.outgoing → length page ≡ page_size
    → written_to s (responded s page room) ≡ sent_octets s.outgoing (fitting s.outgoing room)
unfolding responded
written-sent s page room good size =
    let o = s.outgoing in
    counted-octets responses_at (put responses_at page o.prod (sent_octets o (fitting o room))) _ _ _ o.prod (omega arith)
    ∙ sent-stands o room max_ack o.prod good (omega arith) refl responses_at page (omega arith) (omega arith)

module _ {q : ℕ} {s : HostState} {read written : List ℕ} {ms : List (List ℕ)} {present : List ℕ}
    (stands : Stands q s read written ms present) where
  -- octets of the present message read
  pub stands_read : (page : List ℕ) (n : ℕ) → Good s → begins_whole present ≡ false → n ≤ area_size
      → Stands q (read_in s page n) (read ++ read_to s page (read_in s page n)) written ms
      (present_part (present ++ octets_in requests_at page s.incoming.cons n))
  unfolding read_in
  stands_read page n good part most =
      record {
        splits = rw (stands.splits, append_assoc, read-octets s page n present good stands.held part most) refl;
        messages = stands.messages;
        held = read_held s page n present good stands.held part most;
        settings = stands.settings;
        acks = stands.acks;
      }

  -- the present message carried out
  pub stands-carried : length present ≡ message_length present → owes s ≡ false
      → Stands q (carried_over s) read written (ms ++ (present ∷ [])) []
  unfolding carried_over
  stands-carried long idle =
      let o = s.outgoing in
      let new = settings_at_setup q in
      let carried : carried_in s ≡ carried_message (settings_after new ms) present [] =
      carried-held s.settings s.incoming.message present stands.held long ∙ rw stands.settings refl in
      let over : o.length ≤ o.written = ltb-false _ _ idle in
      let none : owed_octets s ≡ [] =
      drop_of_length-le (take o.length o.octets) {i = o.written} (omega (arith, length-take o.length o.octets)) in
      record {
        splits = stands.splits ∙ sym (append-nil (joined (ms ++ (present ∷ []))) ∙ joined_snoc ms present);
        messages = messages-snoc ms present stands.messages long;
        held = holding-none _ stands.held.header-size stands.held.payload-size refl;
        settings = cc (carried, settings-snoc new ms present);
        acks = cc (carried, none, append-nil written, stands.acks, acks-snoc new ms present);
      }

  -- octets of the ack written
  pub stands-responded : (page : List ℕ) (room : ℕ) → GoodOutgoing max_ack s.outgoing → length page ≡ page_size
      → Stands q (responded s page room).state read (written ++ written_to s (responded s page room)) ms present
  unfolding responded
  stands-responded page room good size =
      let o = s.outgoing in
      record {
        splits = stands.splits;
        messages = stands.messages;
        held = stands.held;
        settings = stands.settings;
        acks = rw (written-sent s page room good size, append_assoc, sent-rest o (fitting o room) good (omega arith)) stands.acks;
      }
