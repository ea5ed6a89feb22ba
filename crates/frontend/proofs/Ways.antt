-- The ways that a call of the guest's end can go, each with what is known there.
use Rattle.octets.specs.Prelude.{◌≡◌, refl, List, true, false, ℕ, ◌≤◌, ◌<◌, arith, length, eqb, eqb-true, eqb-false}
use Rattle.octets.specs.Outcome.{Outcome, value, refused}
use Rattle.octets.proofs.Truth.{by-test}
use Rattle.messages.specs.Wire.{type_in}
use Rattle.messages.specs.Requests.{request_of}
use Rattle.page.specs.Page.{page_size}
use Rattle.page.proofs.Tests.{RefusedBy, by_tests}
use Rattle.ring.specs.Reading.{whole}
use Rattle.guest_messages.specs.Refusals.{not_an_ack}
use Rattle.guest_steps.specs.Refusals.{request_outstanding}
use Rattle.guest_messages.specs.Reader.{Reading, is_ack_to, read_ack}
use Rattle.guest_steps.specs.Guest.{idle, failed, incoming, with_incoming, owes, Told, number, acked, pending, request_owed, told_number, Good}
use Rattle.guest_steps.specs.Guest.{GuestState}
use Rattle.guest_steps.specs.Calls.{After, Found, unread_requests, unread_acks, found, refused_with, answered_with, begun, wrote_on, started_by}
use Rattle.guest_steps.specs.Calls.{readied, start_by, start_of, size_wrong, message_octets, Seen, part, judged, seen, done_with, concluded}
use Rattle.guest_steps.specs.Calls.{read_on, event_by, event_of}
use Rattle.frontend.specs.Rules.{Accepted, room, after_reading}

-- what a call leaves: all as it was where it is refused, but for an ack that the reader refuses; the own counts written back where
-- it is answered; and octets of a request written before that, by a guest t. K is what is assumed of the guest and of the request;
-- R is why octets are read
pub data Way (g : GuestState) (page : List ℕ) (K R : Type 0) : After → Type 0 where
  leaves : (k : ℕ) → (K → request_owed < k) → Way g page K R (refused_with k g page)
  fails : R → Way g page K R (refused_with not_an_ack (done_with g (after_reading g page).message failed g.rsp_cons) page)
  answers : (t : Told) (h : GuestState) → length page ≡ page_size → h.req_prod ≡ g.req_prod → told_number t ≤ request_owed
      → ((R → ⊥) → incoming h ≡ incoming g) → Way g page K R (answered_with t h page)
  writes : (t : GuestState) → length page ≡ page_size → t.req_prod ≡ g.req_prod → incoming t ≡ incoming g → (K → Good t)
      → Way g page K R (wrote_on t page (room g page))

module _ (g : GuestState) (page : List ℕ) where
  -- what a call finds, and its refusal by 3, 4 or 5
  abbrev counts : Found
  counts = record { room = room g page; unread = unread_acks g page }

  abbrev pub Stopped : ℕ → Type 0
  Stopped k = RefusedBy page (unread_requests g page) (unread_acks g page) k

  pub found-ways : (P : Outcome Found → Type 0)
      → ((k : ℕ) → Stopped k → P (refused k))
      → (Accepted g page → g.phase ≡ failed → P (refused not_an_ack))
      → (Accepted g page → (g.phase ≡ failed → ⊥) → P (value counts))
      → P (found g page)
  unfolding found
  found-ways P stopped twelve go =
      by_tests page (unread_requests g page) (unread_acks g page) P refused _ stopped
      (λ s r a. let ok : Accepted g page = record { size = s; requests = r; responses = a } in
      by-test P (eqb g.phase failed) _ _ (λ f. twelve ok (eqb-true _ _ f)) (λ f. go ok (eqb-false _ _ f)))

  -- what is seen of an ack: a part; or it is accepted, and then it is whole; or it is refused, which the reader does by 12
  pub seen-ways : (t : ℕ) (P : Seen → Type 0)
      → (whole (after_reading g page).message ≡ false → P part)
      → ((r : Reading) → whole (after_reading g page).message ≡ true → read_ack t (message_octets (after_reading g page).message) ≡ value r
      → P (judged (value r)))
      → P (judged (refused not_an_ack))
      → P (seen t (after_reading g page).message)
  unfolding seen read_ack
  seen-ways t P partly all wrong =
      let m = (after_reading g page).message in
      by-test P (size_wrong m) _ _ (λ bad. wrong)
      (λ good. by-test P (whole m) _ _
      (λ w. by-test (λ (o : Outcome Reading). read_ack t (message_octets m) ≡ o → P (judged o)) (is_ack_to (request_of t) (message_octets m)) _ _
      (λ _ e. all _ w e) (λ _ e. wrong) refl) partly)

  -- an event
  pub event-ways : (P : After → Type 0)
      → ((k : ℕ) → Stopped k → P (refused_with k g page))
      → (Accepted g page → g.phase ≡ failed → P (refused_with not_an_ack g page))
      → (Accepted g page → g.phase ≡ idle → P (answered_with (number pending) g page))
      → (Accepted g page → (g.phase ≡ failed → ⊥) → (g.phase ≡ idle → ⊥) → owes g ≡ true → P (wrote_on g page (room g page)))
      → (Accepted g page → (g.phase ≡ failed → ⊥) → (g.phase ≡ idle → ⊥) → owes g ≡ false → P (read_on g page (unread_acks g page)))
      → P (event_of g page)
  unfolding event_by
  event-ways P stopped twelve rest owing reading =
      found-ways (λ (f : Outcome Found). P (event_by f g page)) stopped twelve
      (λ ok w. by-test P (eqb g.phase idle) _ _ (λ r. rest ok (eqb-true _ _ r))
      (λ b. by-test P (owes g) _ _ (owing ok w (eqb-false _ _ b)) (reading ok w (eqb-false _ _ b))))

  -- what reading gives
  pub read-ways : (P : After → Type 0)
      → (whole (after_reading g page).message ≡ false → P (answered_with (number pending) (with_incoming g (after_reading g page)) page))
      → ((r : Reading) → whole (after_reading g page).message ≡ true
      → read_ack (type_in g.request) (message_octets (after_reading g page).message) ≡ value r
      → P (answered_with (acked r) (done_with g (after_reading g page).message idle (after_reading g page).cons) page))
      → P (refused_with not_an_ack (done_with g (after_reading g page).message failed g.rsp_cons) page)
      → P (read_on g page (unread_acks g page))
  unfolding read_on concluded
  read-ways P partly all wrong =
      seen-ways (type_in g.request) (λ (s : Seen). P (concluded s g (after_reading g page) page)) partly all wrong

  pub event-way : Way g page (Good g) (owes g ≡ false) (event_of g page)
  event-way =
      event-ways (Way g page (Good g) (owes g ≡ false)) (λ k s. leaves k (omega arith)) (λ ok f. leaves _ (omega arith))
      (λ ok i. answers _ g ok.size refl (omega arith) (λ _. refl)) (λ ok w b o. writes g ok.size refl refl (λ good. good))
      (λ ok w b o. read-ways (Way g page (Good g) (owes g ≡ false))
      (λ p. answers _ _ ok.size refl (omega arith) (λ none. absurd (none o)))
      (λ r w a. answers (acked r) _ ok.size refl (omega arith) (λ none. absurd (none o))) (fails o))

  -- a start: once there is room, the writer refuses the request, or it is begun
  module _ (request : Outcome (List ℕ)) where
    started-ways : (P : After → Type 0) → ((k : ℕ) → request ≡ refused k → P (refused_with k g page))
        → ((m : List ℕ) → request ≡ value m → P (wrote_on (begun g m) page (room g page)))
        → P (started_by request g page (room g page))
    unfolding started_by
    started-ways P refusing beginning = by request refl
      where
        by : (o : Outcome (List ℕ)) → request ≡ o → P (started_by o g page (room g page))
        by (value m) e = beginning m e
        by (refused k) e = refusing k e

    pub start-ways : (P : After → Type 0)
        → ((k : ℕ) → Stopped k → P (refused_with k g page))
        → (Accepted g page → g.phase ≡ failed → P (refused_with not_an_ack g page))
        → (Accepted g page → (g.phase ≡ failed → ⊥) → (g.phase ≡ idle → ⊥) → P (refused_with request_outstanding g page))
        → (Accepted g page → g.phase ≡ idle → (k : ℕ) → request ≡ refused k → P (refused_with k g page))
        → (Accepted g page → g.phase ≡ idle → (m : List ℕ) → request ≡ value m → P (wrote_on (begun g m) page (room g page)))
        → P (start_of request g page)
    unfolding start_by readied
    start-ways P stopped twelve thirteen refusing beginning =
        found-ways (λ (f : Outcome Found). P (start_by (readied f g) request g page)) stopped twelve
        (λ ok w. by-test (λ (o : Outcome ℕ). P (start_by o request g page)) (eqb g.phase idle) _ _
        (λ r. let i = eqb-true g.phase idle r in started-ways P (refusing ok i) (beginning ok i))
        (λ b. thirteen ok w (eqb-false _ _ b)))
