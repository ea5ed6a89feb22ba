-- Both sides of a ring stay good, and octets are counted as they are moved.
use Rattle.octets.specs.Prelude.{◌≡◌, refl, sym, ap, ◌∙◌, List, [], ◌∷◌, false, ℕ, suc, ◌+◌, ◌-◌, ◌%◌, ◌^◌, ◌≤◌, ◌<◌, arith, length}
use Rattle.octets.specs.Prelude.{length-set, get_or, drop, length-drop, length-take-le, ltb, lt-leb}
use Rattle.octets.proofs.Truth.{by-test}
use Rattle.messages.specs.Wire.{header_size, max_payload}
use Rattle.messages.specs.Requests.{max_ack}
use Rattle.page.specs.Page.{area_size, advanced, less, octets_in, put}
use Rattle.page.proofs.Untouched.{put_other, put-stands}
use Rattle.ring.specs.Reading.{message_length, is_whole, whole, with_octet, received, received_from, incoming_at_setup, GoodIncoming, Message}
use Rattle.ring.specs.Reading.{Incoming}
use Rattle.ring.specs.Writing.{fitting, sent, sent_octets, outgoing_at_setup, GoodOutgoing, Outgoing}

-- a message with the same sizes, and n octets more
pub record Grown (m r : Message) (n : ℕ) : Type 0 where
  pub header : length r.header ≡ length m.header
  pub payload : length r.payload ≡ length m.payload
  pub least : m.taken ≤ r.taken
  pub most : r.taken ≤ m.taken + n

grown-next : (m : Message) (x : ℕ) → Grown m (with_octet m x) 1
unfolding with_octet
grown-next m x =
    by-test (λ (r : Message). Grown m r 1) (ltb m.taken header_size) _ _
    (λ e. record { header = length-set m.header m.taken x; payload = refl; least = omega arith; most = omega arith })
    (λ e. record { header = refl; payload = length-set m.payload (m.taken - header_size) x; least = omega arith; most = omega arith })

grown-none : (m : Message) (n : ℕ) → Grown m m n
grown-none m n = record { header = refl; payload = refl; least = omega arith; most = omega arith }

grown-more : (m r t : Message) (n : ℕ) → Grown m r 1 → Grown r t n → Grown m t (suc n)
grown-more m r t n one more =
    record { header = more.header ∙ one.header; payload = more.payload ∙ one.payload; least = omega arith; most = omega arith }

pub grown : (xs : List ℕ) (m : Message) → Grown m (received xs m) (length xs)
unfolding received
grown [] m = grown-none m 0
grown (x ∷ xs) m =
    by-test (λ (r : Message). Grown m r (suc (length xs))) (whole m) _ _ (λ e. grown-none m (suc (length xs)))
    (λ e. grown-more m (with_octet m x) (received xs (with_octet m x)) (length xs) (grown-next m x) (grown xs (with_octet m x)))

-- the difference of a count and itself advanced is what it was advanced by
pub less-advanced : (c n : ℕ) → c < 2 ^ 32 → n < 2 ^ 32 → less (advanced c n) c ≡ n
less-advanced c n hc hn = omega arith

-- a message of which nothing is read is not whole
pub none-waits : (header : List ℕ) → is_whole header 0 ≡ false
none-waits header = lt-leb (message_length header) 0 (omega arith)

pub good-received : (area : ℕ) (page : List ℕ) (i : Incoming) (n kept : ℕ) → GoodIncoming kept i
    → whole (received_from area page i n).message ≡ false → GoodIncoming kept (received_from area page i n)
unfolding received_from
good-received area page i n kept good waits =
    let g = grown (octets_in area page i.cons n) i.message in
    record { header = g.header ∙ good.header; payload = g.payload ∙ good.payload; waiting = waits; count = omega arith }

pub good-sent : (o : Outgoing) (room most : ℕ) → GoodOutgoing most o → GoodOutgoing most (sent o (fitting o room))
good-sent o room most good =
    record { size = good.size; within = omega (arith, good.within); short = good.short; count = omega arith }

pub good-incoming-at-setup : GoodIncoming max_payload incoming_at_setup
good-incoming-at-setup = record { header = refl; payload = refl; waiting = none-waits incoming_at_setup.message.header; count = omega arith }

pub good-outgoing-at-setup : GoodOutgoing max_ack outgoing_at_setup
good-outgoing-at-setup = record { size = refl; within = omega arith; short = omega arith; count = omega arith }

-- as many octets sent as fit: the count moves by them, from c, and they stand in the area, where nothing else changes
module _ (o : Outgoing) (room most c : ℕ) (good : GoodOutgoing most o) (small : most < 2 ^ 32) (same : o.prod ≡ c) where
  pub sent-moves : less (sent o (fitting o room)).prod c ≡ fitting o room
  sent-moves = omega (arith, good.count, good.short)

  sent-length : length (sent_octets o (fitting o room)) ≡ fitting o room
  sent-length =
      length-take-le (fitting o room) (drop o.written o.octets) (omega (arith, length-drop o.written o.octets, good))

  pub sent-elsewhere : (area : ℕ) (page : List ℕ) (i : ℕ)
      → ((j : ℕ) → j < less (sent o (fitting o room)).prod c → i ≡ area + (c + j) % area_size → ⊥)
      → get_or (put area page o.prod (sent_octets o (fitting o room))) i 0 ≡ get_or page i 0
  sent-elsewhere area page i free =
      put_other area (sent_octets o (fitting o room)) page o.prod i
      (λ j l e. free j (omega (arith, sent-moves, sent-length)) (e ∙ ap (λ (p : ℕ). area + (p + j) % area_size) same))

  pub sent-stands : (area : ℕ) (page : List ℕ) → fitting o room ≤ area_size → area + area_size ≤ length page
      → octets_in area (put area page o.prod (sent_octets o (fitting o room))) o.prod (less (sent o (fitting o room)).prod c)
      ≡ sent_octets o (fitting o room)
  sent-stands area page few long =
      let xs = sent_octets o (fitting o room) in
      ap (octets_in area (put area page o.prod xs) o.prod) (sent-moves ∙ sym sent-length)
      ∙ put-stands area xs page o.prod (omega (arith, sent-length)) long
