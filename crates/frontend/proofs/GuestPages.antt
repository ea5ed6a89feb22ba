-- The page under the guest's calls: what is written, what is left, and what is read.
use Rattle.octets.specs.Prelude.{◌≡◌, refl, sym, ap, subst, ◌∙◌, List, inl, inr, ℕ, ◌+◌, ◌≤◌, ◌<◌, arith, length, get_or, eqb}
use Rattle.octets.specs.Outcome.{Outcome, value, refused}
use Rattle.octets.proofs.Truth.{same_test}
use Rattle.messages.specs.Wire.{type_in}
use Rattle.page.specs.Page.{page_size, area_size, req_cons_at, req_prod_at, rsp_cons_at, rsp_prod_at, requests_at, responses_at, count_in, less}
use Rattle.page.specs.Page.{counted_by_guest, put}
use Rattle.ring.specs.Reading.{received_from}
use Rattle.ring.specs.Writing.{fitting, sent_octets, sent}
use Rattle.ring.proofs.Sides.{sent-moves, sent-elsewhere, sent-stands}
use Rattle.page.proofs.Places.{octets-none, put-length}
use Rattle.page.proofs.Untouched.{guest-counted-beside, guest-counted-length, guest-counted-cons, guest-counted-prod, guest-counted-others}
use Rattle.page.proofs.Untouched.{guest-counted-octets, octets-agree}
use Rattle.guest_steps.specs.Guest.{GuestState, idle, max_request, outgoing, with_outgoing, owes, number, pending, request_owed, told_number, Good}
use Rattle.guest_steps.specs.Calls.{After, Found, found, unread_requests, unread_acks, answered_with, begun, wrote_on, started_by, readied}
use Rattle.guest_steps.specs.Calls.{start_by, start_of, Seen, concluded, read_on, event_by, event_of}
use Rattle.frontend.specs.Rules.{Asked, Accepted, room, after_reading, NoOwnCount, moved, RequestPlace, WritesNext, Alike}
use Rattle.frontend.proofs.Goodness.{asked-fits, good-begun, good-started, good-event, start-way}
use Rattle.frontend.proofs.Ways.{Way, leaves, fails, answers, writes, found-ways, seen-ways, event-ways, read-ways, event-way}
use Rattle.frontend.proofs.GuestRules.{begins}

-- ---- what octets of a request written leave

wrote-length : (g : GuestState) (page : List ℕ) (n : ℕ) → length (wrote_on g page n).page ≡ length page
unfolding wrote_on
wrote-length g page n =
    let o = outgoing g in
    let xs = sent_octets o (fitting o n) in
    guest-counted-length (put requests_at page o.prod xs) _ _ ∙ put-length requests_at xs page o.prod

-- both own counts are written back
abbrev Back : After → Type 0
Back a = (count_in a.page rsp_cons_at ≡ a.state.rsp_cons) × (count_in a.page req_prod_at ≡ a.state.req_prod)

back : (g : GuestState) (page : List ℕ) → Good g → length page ≡ page_size → Back (answered_with (number pending) g page)
back g page good size =
    let c = g.rsp_cons in
    let p = g.req_prod in
    (guest-counted-cons page c p (omega arith) good.ack.count, guest-counted-prod page c p (omega arith) good.request.count)

back-wrote : (g : GuestState) (page : List ℕ) (n : ℕ) → Good (wrote_on g page n).state → length page ≡ page_size → Back (wrote_on g page n)
unfolding wrote_on
back-wrote g page n good size =
    let o = outgoing g in
    let k = fitting o n in
    back (with_outgoing g (sent o k))
    (put requests_at page o.prod (sent_octets o k)) good (put-length requests_at (sent_octets o k) page o.prod ∙ size)

-- what is left of an octet that is no own count and no place of an octet written
abbrev Kept : GuestState → List ℕ → ℕ → After → Type 0
Kept g page i a = (RequestPlace g a i → ⊥) → get_or a.page i 0 ≡ get_or page i 0

module _ (g t : GuestState) (page : List ℕ) (n : ℕ) (same : t.req_prod ≡ g.req_prod) (good : Good t) where
  kept-wrote : (i : ℕ) → NoOwnCount i → Kept g page i (wrote_on t page n)
  unfolding wrote_on
  kept-wrote i own free =
      guest-counted-beside _ _ _ i own
      ∙ sent-elsewhere (outgoing t) n max_request g.req_prod good.request (omega arith) same requests_at page i
      (λ j l e. free (j, l, e))

  -- octets written fit into the room
  in-room-wrote : less (wrote_on t page n).state.req_prod g.req_prod ≤ n
  unfolding wrote_on
  in-room-wrote = omega (arith, sent-moves (outgoing t) n max_request g.req_prod good.request (omega arith) same)

none-moved : (g : GuestState) → Good g → less g.req_prod g.req_prod ≡ 0
none-moved g good = omega (arith, good.request.count)

-- ---- a call of either kind

module _ (g : GuestState) (page : List ℕ) (K R : Type 0) where
  way-length : {a : After} → Way g page K R a → length a.page ≡ length page
  way-length (leaves k high) = refl
  way-length (fails r) = refl
  way-length (answers t h size same low unread) = guest-counted-length page _ _
  way-length (writes t size same unread good) = wrote-length t page (room g page)

  module _ (known : K) where
    way-counts : {a : After} → Good a.state → told_number a.answer ≤ request_owed → Way g page K R a → Back a
    way-counts left below (leaves k high) = absurd (omega (arith, high known))
    way-counts left below (fails r) = absurd (omega arith)
    way-counts left below (answers t h size same low unread) = back h page left size
    way-counts left below (writes t size same unread good) = back-wrote t page (room g page) left size

    way-elsewhere : {a : After} → (i : ℕ) → NoOwnCount i → Way g page K R a → Kept g page i a
    way-elsewhere i own (leaves k high) free = refl
    way-elsewhere i own (fails r) free = refl
    way-elsewhere i own (answers t h size same low unread) free = guest-counted-beside page _ _ i own
    way-elsewhere i own (writes t size same unread good) free = kept-wrote g t page (room g page) same (good known) i own free

    way-into-room : {a : After} → Good g → Accepted g page → Way g page K R a → moved g a + unread_requests g page ≤ area_size
    way-into-room well ok (leaves k high) = omega (arith, none-moved g well, ok.requests)
    way-into-room well ok (fails r) = omega (arith, none-moved g well, ok.requests)
    way-into-room well ok (answers t h size same low unread) = omega (arith, none-moved g well, ok.requests)
    way-into-room well ok (writes t size same unread good) =
        omega (arith, in-room-wrote g t page (room g page) same (good known), ok.requests)

module _ (g : GuestState) (page : List ℕ) where
  -- the page keeps its length
  pub event-length-same : length (event_of g page).page ≡ length page
  event-length-same = way-length g page _ _ (event-way g page)

  pub start-length-same : (request : Outcome (List ℕ)) → length (start_of request g page).page ≡ length page
  start-length-same request = way-length g page _ ⊥ (start-way request g page)

  module _ (good : Good g) where
    -- every call answered 0, 1 or 2 writes both own counts back
    pub event-counts-written : told_number (event_of g page).answer ≤ request_owed → Back (event_of g page)
    event-counts-written low = way-counts g page _ _ good (good-event g page good) low (event-way g page)

    pub start-counts-written : (request : Outcome (List ℕ)) → Asked request → told_number (start_of request g page).answer ≤ request_owed
        → Back (start_of request g page)
    start-counts-written request asked low =
        way-counts g page _ ⊥ (asked, good) (good-started request g page (asked-fits request asked) good) low (start-way request g page)

    -- only the request's octets and the own counts change
    module _ (i : ℕ) (own : NoOwnCount i) where
      pub event-elsewhere-same : (RequestPlace g (event_of g page) i → ⊥) → get_or (event_of g page).page i 0 ≡ get_or page i 0
      event-elsewhere-same = way-elsewhere g page _ _ good i own (event-way g page)

      pub start-elsewhere-same : (request : Outcome (List ℕ)) → Asked request → (RequestPlace g (start_of request g page) i → ⊥)
          → get_or (start_of request g page).page i 0 ≡ get_or page i 0
      start-elsewhere-same request asked = way-elsewhere g page _ ⊥ (asked, good) i own (start-way request g page)

    -- octets written fit beside those that the host has not read
    pub event-writes-into-room : Accepted g page → moved g (event_of g page) + unread_requests g page ≤ area_size
    event-writes-into-room ok = way-into-room g page _ _ good good ok (event-way g page)

    pub start-writes-into-room : (request : Outcome (List ℕ)) → Asked request → Accepted g page
        → moved g (start_of request g page) + unread_requests g page ≤ area_size
    start-writes-into-room request asked ok = way-into-room g page _ ⊥ (asked, good) good ok (start-way request g page)

-- ---- the octets written are the request's next ones

wrote-next : (g : GuestState) (page : List ℕ) (n : ℕ) → Good g → length page ≡ page_size → n ≤ area_size
    → WritesNext g (wrote_on g page n)
unfolding wrote_on
wrote-next g page n good size small =
    let o = outgoing g in
    let moves = sent-moves o n max_request o.prod good.request (omega arith) refl in
    record {
      octets =
          guest-counted-octets requests_at (put requests_at page o.prod (sent_octets o (fitting o n))) _ _ _ o.prod (omega arith)
          ∙ sent-stands o n max_request o.prod good.request (omega arith) refl requests_at page (omega arith) (omega arith)
          ∙ ap (sent_octets o) (sym moves);
    }

-- where none is written there is none
none-next : (g : GuestState) (a : After) → moved g a ≡ 0 → WritesNext g a
none-next g a none = record { octets = rw none (octets-none requests_at a.page g.req_prod) }

module _ (g : GuestState) (page : List ℕ) (good : Good g) where
  pub event-writes-next : WritesNext g (event_of g page)
  event-writes-next =
      let none = none-moved g good in
      event-ways g page (WritesNext g) (λ k s. none-next g _ none) (λ ok f. none-next g _ none) (λ ok i. none-next g _ none)
      (λ ok w b o. wrote-next g page (room g page) good ok.size (omega arith))
      (λ ok w b o. read-ways g page (WritesNext g) (λ p. none-next g _ none) (λ r w a. none-next g _ none) (none-next g _ none))

  -- of a start, the guest with the request begun
  pub start-writes-first : (request : Outcome (List ℕ)) (m : List ℕ) → Asked request → request ≡ value m → Accepted g page → g.phase ≡ idle
      → WritesNext (begun g m) (start_of request g page)
  start-writes-first request m asked accepts ok rest =
      subst (WritesNext (begun g m)) (sym (begins g page request m accepts ok rest))
      (wrote-next (begun g m) page (room g page) (good-begun g m (asked-fits request asked m accepts) rest good) ok.size (omega arith))

-- ---- what is not read

-- of a page only its length, req_cons, rsp_prod and the response area are read
module _ (g : GuestState) (p q : List ℕ) (size : length p ≡ length q) (cons : count_in p req_cons_at ≡ count_in q req_cons_at)
    (prod : count_in p rsp_prod_at ≡ count_in q rsp_prod_at)
    (area : (o : ℕ) → o < area_size → get_or p (responses_at + o) 0 ≡ get_or q (responses_at + o) 0) where
  found_alike : found g p ≡ found g q
  unfolding found
  found_alike = rw (size, cons, prod) refl

  read_alike : Alike (read_on g p (unread_acks g q)) (read_on g q (unread_acks g q))
  unfolding read_on received_from concluded
  read_alike =
      let i = after_reading g q in
      rw (octets-agree responses_at p q area (unread_acks g q) g.rsp_cons)
      (seen-ways g q (type_in g.request) (λ (x : Seen). Alike (concluded x g i p) (concluded x g i q))
      (λ w. record { answer = refl; state = refl }) (λ r w a. record { answer = refl; state = refl })
      (record { answer = refl; state = refl }))

  pub event-only-these-read : Alike (event_of g p) (event_of g q)
  unfolding event_by wrote_on
  event-only-these-read =
      rw found_alike
      (found-ways g q (λ (f : Outcome Found). Alike (event_by f g p) (event_by f g q)) (λ k x. record { answer = refl; state = refl })
      (λ ok f. record { answer = refl; state = refl })
      (λ ok w. same_test Alike (eqb g.phase idle) _ _ _ _ (record { answer = refl; state = refl })
      (same_test Alike (owes g) _ _ _ _ (record { answer = refl; state = refl }) read_alike)))

  start-by-alike : (r : Outcome ℕ) (request : Outcome (List ℕ)) → Alike (start_by r request g p) (start_by r request g q)
  unfolding start_by started_by wrote_on
  start-by-alike (value n) (value m) = record { answer = refl; state = refl }
  start-by-alike (value n) (refused k) = record { answer = refl; state = refl }
  start-by-alike (refused k) request = record { answer = refl; state = refl }

  pub start-only-these-read : (request : Outcome (List ℕ)) → Alike (start_of request g p) (start_of request g q)
  start-only-these-read request = rw found_alike (start-by-alike (readied (found g q) g) request)

-- what the page says of req_prod and rsp_cons makes no difference to answer or state
module _ (g : GuestState) (page : List ℕ) (c p : ℕ) where
  abbrev other : List ℕ
  other = counted_by_guest page c p

  same-cons : count_in other req_cons_at ≡ count_in page req_cons_at
  same-cons = guest-counted-others page c p req_cons_at (inl (omega arith))

  same-prod : count_in other rsp_prod_at ≡ count_in page rsp_prod_at
  same-prod = guest-counted-others page c p rsp_prod_at (inr (omega arith))

  same_area : (o : ℕ) → o < area_size → get_or other (responses_at + o) 0 ≡ get_or page (responses_at + o) 0
  same_area o l = guest-counted-beside page c p (responses_at + o) (inr (omega arith))

  pub event-own-counts-not-read : Alike (event_of g other) (event_of g page)
  event-own-counts-not-read = event-only-these-read g other page (guest-counted-length page c p) same-cons same-prod same_area

  pub start-own-counts-not-read : (request : Outcome (List ℕ)) → Alike (start_of request g other) (start_of request g page)
  start-own-counts-not-read = start-only-these-read g other page (guest-counted-length page c p) same-cons same-prod same_area
