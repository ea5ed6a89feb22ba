-- The ways of an event, as the definitions say them.
use Rattle.octets.specs.Prelude.{◌≡◌, refl, List, true, false, ℕ, ◌-◌, ◌≤◌, ◌<◌, length, eq-eqb, ne_eqb, le-leb, lt-leb}
use Rattle.page.specs.Refusals.{page_wrong, requests_wrong, responses_wrong}
use Rattle.page.specs.Page.{page_size, area_size, counted}
use Rattle.ring.specs.Reading.{whole}
use Rattle.interface.specs.States.{HostState}
use Rattle.interface.specs.Events.{waiting, unread, unread_acks, refused_with, owes, responded, read_in, carried_over}
use Rattle.interface.specs.Events.{after_read, proceeded}
use Rattle.interface.specs.Events.{event_of, left}

-- ack octets owed: they are written
pub proceeds-owing : (s : HostState) (page : List ℕ) (n room : ℕ) → owes s ≡ true → responded s page room ≡ proceeded s page n room
unfolding proceeded
proceeds-owing s page n room owing = rw owing refl

-- no ack owed: octets are read
pub proceeds-idle : (s t : HostState) (page : List ℕ) (n room : ℕ) → owes s ≡ false → t ≡ read_in s page n
    → after_read t page room ≡ proceeded s page n room
unfolding proceeded
proceeds-idle s t page n room idle read = rw (idle, ← read) refl

-- once they have been read, the message is whole, or not
module _ (t : HostState) (page : List ℕ) (room : ℕ) where
  pub concludes-whole : (u : HostState) → whole t.incoming.message ≡ true → u ≡ carried_over t
      → responded u page room ≡ after_read t page room
  unfolding after_read
  concludes-whole u w carried = rw (w, carried) refl

  pub concludes-part : (octets : List ℕ) → whole t.incoming.message ≡ false
      → octets ≡ counted page t.incoming.cons t.outgoing.prod
      → left waiting t octets ≡ after_read t page room
  unfolding after_read
  concludes-part octets w q = rw (w, q) refl

-- an event that is refused: the page is wrong, or the one count, or the other
module _ (s : HostState) (page : List ℕ) where
  pub refused-page : (length page ≡ page_size → ⊥) → refused_with page_wrong s page ≡ event_of s page
  unfolding event_of
  refused-page wrong = rw (ne_eqb _ _ wrong) refl

  pub refused-requests : (n : ℕ) → length page ≡ page_size → n ≡ unread s page → area_size < n
      → refused_with requests_wrong s page ≡ event_of s page
  unfolding event_of
  refused-requests n size requests many = rw (eq-eqb _ _ size, ← requests, lt-leb _ _ many) refl

  pub refused-responses : (n m : ℕ) → length page ≡ page_size → n ≡ unread s page → n ≤ area_size → m ≡ unread_acks s page → area_size < m
      → refused_with responses_wrong s page ≡ event_of s page
  unfolding event_of
  refused-responses n m size requests few responses many =
      rw (eq-eqb _ _ size, ← requests, le-leb _ _ few, ← responses, lt-leb _ _ many) refl

-- an event with good counts
pub goes_on : (s : HostState) (page : List ℕ) (n m : ℕ) → length page ≡ page_size → n ≡ unread s page → n ≤ area_size
    → m ≡ unread_acks s page → m ≤ area_size → proceeded s page n (area_size - m) ≡ event_of s page
unfolding event_of
goes_on s page n m size requests few responses some =
    rw (eq-eqb _ _ size, ← requests, le-leb _ _ few, ← responses, le-leb _ _ some) refl
