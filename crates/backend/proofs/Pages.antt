-- The page that an event leaves, and what of the page it does not look at.
use Rattle.octets.specs.Prelude.{◌≡◌, refl, ◌∙◌, List, inl, inr, ℕ, ◌+◌, ◌%◌, ◌≤◌, ◌<◌, arith, length, get_or, eqb, leb}
use Rattle.octets.proofs.Truth.{same_test}
use Rattle.messages.specs.Requests.{max_ack}
use Rattle.page.specs.Page.{page_size, area_size, req_cons_at, req_prod_at, rsp_cons_at, rsp_prod_at, requests_at, responses_at}
use Rattle.page.specs.Page.{count_in, less, counted, put}
use Rattle.ring.specs.Reading.{whole, received_from}
use Rattle.ring.specs.Writing.{fitting, sent_octets, sent}
use Rattle.ring.proofs.Sides.{sent-moves, sent-elsewhere}
use Rattle.page.proofs.Places.{octets-length, put-length}
use Rattle.page.proofs.Untouched.{counted-between, counted-behind, counted-length, counted-cons, counted-prod, counted-others, octets-agree}
use Rattle.interface.specs.States.{HostState, Good}
use Rattle.interface.specs.Events.{After, unread, unread_acks, answered_with, with_outgoing, owes, responded, read_in, carried_over, after_read}
use Rattle.interface.specs.Events.{proceeded, event_of}
use Rattle.backend.specs.Streams.{written_by}
use Rattle.backend.specs.Rules.{Accepted, room, after_reading, NoOwnCount, AckPlace, Alike}
use Rattle.backend.proofs.Branches.{event-cases}
use Rattle.backend.proofs.Goodness.{good-responded, good-ways}

-- ---- what octets of an ack written leave

counted-other : (page : List ℕ) (c p i : ℕ) → NoOwnCount i → get_or (counted page c p) i 0 ≡ get_or page i 0
counted-other page c p i (inl (low, high)) = counted-between page c p i low high
counted-other page c p i (inr high) = counted-behind page c p i high

-- what is left of an octet, for a state and its page after the writing
abbrev Kept : HostState → List ℕ → ℕ → After → Type 0
Kept s page i a =
    ((j : ℕ) → j < less a.state.outgoing.prod s.outgoing.prod
    → i ≡ responses_at + (s.outgoing.prod + j) % area_size → ⊥)
    → get_or a.page i 0 ≡ get_or page i 0

module _ (s t : HostState) (page : List ℕ) (n : ℕ) (same : t.outgoing.prod ≡ s.outgoing.prod) (good : Good t) where
  kept-responded : (i : ℕ) → NoOwnCount i → Kept s page i (responded t page n)
  unfolding responded
  kept-responded i own free =
      counted-other _ _ _ i own
      ∙ sent-elsewhere t.outgoing n max_ack s.outgoing.prod good.outgoing (omega arith) same responses_at page i free

  responded-moves : less (responded t page n).state.outgoing.prod s.outgoing.prod ≤ n
  unfolding responded
  responded-moves = omega (arith, sent-moves t.outgoing n max_ack s.outgoing.prod good.outgoing (omega arith) same)

responded-length : (s : HostState) (page : List ℕ) (n : ℕ) → length (responded s page n).page ≡ length page
unfolding responded
responded-length s page n =
    let o = s.outgoing in
    let xs = sent_octets o (fitting o n) in
    counted-length (put responses_at page o.prod xs) _ _ ∙ put-length responses_at xs page o.prod

-- the page has both own counts of the state
abbrev Back : After → Type 0
Back a =
    (count_in a.page req_cons_at ≡ a.state.incoming.cons) × (count_in a.page rsp_prod_at ≡ a.state.outgoing.prod)

back : (s : HostState) (page : List ℕ) → Good s → length page ≡ page_size → Back (answered_with 0 s page)
back s page good size =
    let c = s.incoming.cons in
    let p = s.outgoing.prod in
    (counted-cons page c p (omega arith) good.incoming.count, counted-prod page c p (omega arith) good.outgoing.count)

back-responded : (s : HostState) (page : List ℕ) (n : ℕ) → Good s → length page ≡ page_size → Back (responded s page n)
unfolding responded
back-responded s page n good size =
    let o = s.outgoing in
    let xs = sent_octets o (fitting o n) in
    back (with_outgoing s (sent o (fitting o n))) (put responses_at page o.prod xs) (good-responded s page n good)
    (put-length responses_at xs page o.prod ∙ size)

-- ---- what an event leaves

written-length : (s : HostState) (page : List ℕ)
    → length (written_by s page) ≡ less (event_of s page).state.outgoing.prod s.outgoing.prod
written-length s page = octets-length responses_at (event_of s page).page s.outgoing.prod _

-- only the ack's octets, req_cons and rsp_prod change on the page
pub elsewhere-same : (s : HostState) (page : List ℕ) (i : ℕ) → Good s → NoOwnCount i → (AckPlace s page i → ⊥)
    → get_or (event_of s page).page i 0 ≡ get_or page i 0
elsewhere-same s page i good own free =
    good-ways s page good (Kept s page i) (λ k x f. refl) (λ ok t same well. kept-responded s t page (room s page) same well i own)
    (λ ok well f. counted-other page _ _ i own) (λ j l e. free (j, rw (written-length s page) l, e))

pub length-same : (s : HostState) (page : List ℕ) → length (event_of s page).page ≡ length page
length-same s page =
    event-cases s page (λ (a : After). length a.page ≡ length page) (λ k x. refl)
    (λ ok owing. responded-length s page (room s page))
    (λ ok idle part. counted-length page _ _)
    (λ ok idle all. responded-length (carried_over (after_reading s page)) page (room s page))

-- every event answered 0, 1 or 2 writes both own counts back
pub counts-written : (s : HostState) (page : List ℕ) → Good s → Accepted s page
    → (count_in (event_of s page).page req_cons_at ≡ (event_of s page).state.incoming.cons)
    × (count_in (event_of s page).page rsp_prod_at ≡ (event_of s page).state.outgoing.prod)
counts-written s page good ok =
    good-ways s page good Back (λ k x. absurd (x.not-passed ok.size ok.requests ok.responses))
    (λ _ t same well. back-responded t page (room s page) well ok.size) (λ _ well. back (after_reading s page) page well ok.size)

none_moves : (s : HostState) (page : List ℕ) → Good s
    → less (after_reading s page).outgoing.prod s.outgoing.prod ≤ room s page
unfolding read_in
none_moves s page good = omega (arith, good.outgoing.count)

-- the octets written fit beside those that the guest has not read
pub writes-into-room : (s : HostState) (page : List ℕ) → Good s → Accepted s page → length (written_by s page) + unread_acks s page ≤ area_size
writes-into-room s page good ok =
    let moved =
    good-ways s page good (λ (a : After). less a.state.outgoing.prod s.outgoing.prod ≤ room s page)
    (λ k x. omega (arith, good.outgoing.count)) (λ _ t same well. responded-moves s t page (room s page) same well)
    (λ _ well. none_moves s page good) in
    omega (arith, moved, written-length s page)

-- ---- what is not read

-- of a page only its length, req_prod, rsp_cons and the request area are read
pub only-these-read : (s : HostState) (p q : List ℕ) → length p ≡ length q → count_in p req_prod_at ≡ count_in q req_prod_at
    → count_in p rsp_cons_at ≡ count_in q rsp_cons_at → ((o : ℕ) → o < area_size → get_or p (requests_at + o) 0 ≡ get_or q (requests_at + o) 0)
    → Alike (event_of s p) (event_of s q)
unfolding event_of proceeded after_read responded read_in received_from
only-these-read s p q size prod cons area =
    rw (size, prod, cons, octets-agree requests_at p q area (unread s q) s.incoming.cons)
    (same_test Alike (eqb (length q) page_size) _ _ _ _
    (same_test Alike (leb (unread s q) area_size) _ _ _ _
    (same_test Alike (leb (unread_acks s q) area_size) _ _ _ _
    (same_test Alike (owes s) _ _ _ _ (record { answer = refl; state = refl })
    (same_test Alike (whole (after_reading s q).incoming.message) _ _ _ _ (record { answer = refl; state = refl })
    (record { answer = refl; state = refl })))
    (record { answer = refl; state = refl })) (record { answer = refl; state = refl })) (record { answer = refl; state = refl }))

-- what the page says of req_cons and rsp_prod makes no difference to answer or state
pub own-counts-not-read : (s : HostState) (page : List ℕ) (c p : ℕ) → Alike (event_of s (counted page c p)) (event_of s page)
own-counts-not-read s page c p =
    only-these-read s (counted page c p) page (counted-length page c p)
    (counted-others page c p req_prod_at (omega arith) (omega arith))
    (counted-others page c p rsp_cons_at (omega arith) (omega arith))
    (λ o l. counted-behind page c p (requests_at + o) (omega arith))
