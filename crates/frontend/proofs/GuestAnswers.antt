-- Which number a call of the guest's end answers, each exactly where its condition holds, over the definitions alone.
use Rattle.octets.specs.Prelude.{◌≡◌, refl, sym, ap, ◌∙◌, List, ◌↔◌, Bool, true, false, cond, false≢true, ℕ, ◌≤◌, ◌<◌, arith, length, eqb}
use Rattle.octets.specs.Outcome.{Outcome, value, refused}
use Rattle.octets.proofs.Truth.{chain, neither, beside}
use Rattle.octets.proofs.Outcomes.{refused-same, value-not-refused}
use Rattle.messages.specs.Wire.{type_in}
use Rattle.page.specs.Refusals.{page_wrong, requests_wrong, responses_wrong}
use Rattle.page.specs.Page.{page_size, area_size}
use Rattle.page.proofs.Tests.{RefusesExactly}
use Rattle.guest_messages.specs.Refusals.{not_an_ack}
use Rattle.guest_messages.specs.Reader.{Reading, status, status_and_flags}
use Rattle.guest_steps.specs.Refusals.{request_outstanding}
use Rattle.guest_steps.specs.Guest.{GuestState, idle, outstanding, failed, owes, Told, number, acked, pending, ack_read, request_owed}
use Rattle.guest_steps.specs.Guest.{told_number, told_of, Good}
use Rattle.guest_steps.specs.Calls.{After, unread_requests, unread_acks, refused_with, answered_with, begun, wrote_on, start_of, Seen, part}
use Rattle.guest_steps.specs.Calls.{judged, concluded, read_on, event_of}
use Rattle.frontend.specs.Rules.{Asked, Accepted, room, after_reading, Awaits, ack_seen, Pends, no-request, last_written, ack-in-part}
use Rattle.frontend.specs.Rules.{RefusesAck, before, now}
use Rattle.std.specs.Prelude.{Result, Ok, Err}
use Rattle.guest_messages.specs.declared.AckRead.TheVariants.{Status, Flags}
use Rattle.guest_steps.specs.declared.Progress.{Progress}
use Rattle.guest_steps.specs.declared.Progress.TheVariants.{Pending, RequestOwed, Acked}
use Rattle.guest_steps.specs.declared.Refusal.{Refusal}
use Rattle.guest_steps.specs.declared.Refusal.TheVariants.{Page, AckRefused, Outstanding}
use Rattle.page.specs.declared.PageRefusal.TheVariants.{PageLength, RequestCount, ResponseCount}
use Rattle.frontend.proofs.Goodness.{WriterRefuses, asked-refused}
use Rattle.frontend.proofs.Ways.{Stopped, seen-ways, event-ways, read-ways, start-ways}

-- the numbers and values keep the answers apart, so the contracts leave no choice
unfoldable refusal : ℕ → Refusal
refusal k =
    cond (eqb k page_wrong) (Page PageLength)
    (cond (eqb k requests_wrong) (Page RequestCount)
    (cond (eqb k responses_wrong) (Page ResponseCount)
    (cond (eqb k not_an_ack) AckRefused Outstanding)))

unfoldable guest-answer : Told → Result Progress Refusal
guest-answer (number k) = cond (eqb k pending) (Ok Pending) (cond (eqb k request_owed) (Ok RequestOwed) (Err (refusal k)))
guest-answer (acked (status st)) = Ok (Acked (Status st))
guest-answer (acked (status_and_flags st flags)) = Ok (Acked (Flags flags))

guest-answer-back : (a : Result Progress Refusal) → guest-answer (told_of a) ≡ a
unfolding guest-answer refusal
guest-answer-back (Ok Pending) = refl
guest-answer-back (Ok RequestOwed) = refl
guest-answer-back (Ok (Acked (Status st))) = refl
guest-answer-back (Ok (Acked (Flags flags))) = refl
guest-answer-back (Err (Page PageLength)) = refl
guest-answer-back (Err (Page RequestCount)) = refl
guest-answer-back (Err (Page ResponseCount)) = refl
guest-answer-back (Err AckRefused) = refl
guest-answer-back (Err Outstanding) = refl

pub guest-answer-determined : (a b : Result Progress Refusal) → told_of a ≡ told_of b → a ≡ b
guest-answer-determined a b e = sym (guest-answer-back a) ∙ ap guest-answer e ∙ guest-answer-back b

-- an answer is a number but 1 where that is its number, and answers with other numbers differ
told-exactly : (t : Told) (k : ℕ) → (k ≡ ack_read → ⊥) → (t ≡ number k) ↔ (told_number t ≡ k)
told-exactly (number j) k other = (λ e. ap told_number e, λ e. ap number e)
told-exactly (acked r) k other = neither (λ e. other (sym (ap told_number e))) (λ e. other (sym e))

differs : {s t : Told} → (told_number s ≡ told_number t → ⊥) → s ≡ t → ⊥
differs other e = other (ap told_number e)

-- octets written: 2 where more are owed, else 0
pub record WroteTells (t : Told) (owing : Bool) : Type 0 where
  pub low : told_number t ≤ request_owed
  pub no-ack : told_number t ≡ ack_read → ⊥
  pub more : (t ≡ number request_owed) ↔ (owing ≡ true)
  pub none : (t ≡ number pending) ↔ (owing ≡ false)

owing-tells : (owing : Bool) → WroteTells (number (cond owing request_owed pending)) owing
owing-tells true =
    let other : true ≡ false → ⊥ = λ e. false≢true (sym e) in
    record { low = omega arith; no-ack = omega arith; more = (λ e. refl, λ e. refl); none = neither (differs (omega arith)) other }
owing-tells false =
    record { low = omega arith; no-ack = omega arith; more = neither (differs (omega arith)) false≢true; none = (λ e. refl, λ e. refl) }

pub wrote-tells : (g : GuestState) (page : List ℕ) (n : ℕ) → WroteTells (wrote_on g page n).answer (owes (wrote_on g page n).state)
unfolding wrote_on
wrote-tells g page n = owing-tells (owes (wrote_on g page n).state)

-- what is seen of the ack is told, and an answer tells what was seen
abbrev seen-told : Seen → Told
seen-told part = number pending
seen-told (judged (value r)) = acked r
seen-told (judged (refused k)) = number k

abbrev told-seen : Told → Seen
told-seen (number k) = cond (eqb k pending) part (judged (refused not_an_ack))
told-seen (acked r) = judged (value r)

module _ (g : GuestState) (page : List ℕ) where
  read_told : (read_on g page (unread_acks g page)).answer ≡ seen-told (ack_seen g page)
  unfolding read_on concluded
  read_told =
      seen-ways g page (type_in g.request) (λ (x : Seen). (concluded x g (after_reading g page) page).answer ≡ seen-told x)
      (λ w. refl) (λ r w a. refl) refl

  read-exactly : (s : Seen) → told-seen (seen-told s) ≡ s → ((read_on g page (unread_acks g page)).answer ≡ seen-told s) ↔ (ack_seen g page ≡ s)
  read-exactly s back =
      let seen_back : told-seen (seen-told (ack_seen g page)) ≡ ack_seen g page =
      seen-ways g page (type_in g.request) (λ (x : Seen). told-seen (seen-told x) ≡ x) (λ w. refl) (λ r w a. refl) refl in
      (λ e. sym seen_back ∙ ap told-seen (sym read_told ∙ e) ∙ back, λ e. read_told ∙ ap seen-told e)

  read-owes : owes (read_on g page (unread_acks g page)).state ≡ owes g
  read-owes = read-ways g page (λ (a : After). owes a.state ≡ owes g) (λ w. refl) (λ r w a. refl) refl

  -- 3, 4 and 5 come before every other answer t
  stopped-exactly : (k : ℕ) (t : Told) (C : Type 0) → (request_owed < told_number t → responses_wrong < told_number t) → Stopped g page k
      → (number k ≡ t) ↔ (Accepted g page × C)
  stopped-exactly k t C high s =
      neither (λ e. let same : k ≡ told_number t = ap told_number e in let x = high (omega arith) in omega arith)
      (λ x. s.not-passed x.0.size x.0.requests x.0.responses)

  -- ---- an event

  abbrev Tells : After → Type 0
  Tells a = RefusesExactly page (unread_requests g page) (unread_acks g page) (told_number a.answer)

  event-tells : Tells (event_of g page)
  event-tells =
      event-ways g page Tells (λ k s. s.exactly) (λ ok f. omega arith) (λ ok i. omega arith)
      (λ ok w b o. let x = (wrote-tells g page (room g page)).low in omega arith)
      (λ ok w b o. read-ways g page Tells (λ p. omega arith) (λ r w a. omega arith) (omega arith))

  pub event-refuses-page : ((event_of g page).answer ≡ number page_wrong) ↔ (length page ≡ page_size → ⊥)
  event-refuses-page = chain (told-exactly _ page_wrong (omega arith)) event-tells.wrong-page

  pub event-refuses-requests : ((event_of g page).answer ≡ number requests_wrong) ↔ ((length page ≡ page_size) × (area_size < unread_requests g page))
  event-refuses-requests = chain (told-exactly _ requests_wrong (omega arith)) event-tells.wrong-requests

  pub event-refuses-responses : ((event_of g page).answer ≡ number responses_wrong)
      ↔ ((length page ≡ page_size) × (unread_requests g page ≤ area_size) × (area_size < unread_acks g page))
  event-refuses-responses = chain (told-exactly _ responses_wrong (omega arith)) event-tells.wrong-responses

  module _ (good : Good g) where
    -- an answer that is none of 3, 4 and 5 is told apart once the counts are good
    event-exactly : (t : Told) (C : After → Type 0) → (request_owed < told_number t → responses_wrong < told_number t)
        → (g.phase ≡ failed → (number not_an_ack ≡ t) ↔ C (refused_with not_an_ack g page))
        → (g.phase ≡ idle → (number pending ≡ t) ↔ C (answered_with (number pending) g page))
        → (g.phase ≡ outstanding → owes g ≡ true → ((wrote_on g page (room g page)).answer ≡ t) ↔ C (wrote_on g page (room g page)))
        → (Awaits g → ((read_on g page (unread_acks g page)).answer ≡ t) ↔ C (read_on g page (unread_acks g page)))
        → ((event_of g page).answer ≡ t) ↔ (Accepted g page × C (event_of g page))
    event-exactly t C high failing rest writing reading =
        event-ways g page (λ (a : After). (a.answer ≡ t) ↔ (Accepted g page × C a)) (λ k s. stopped-exactly k t _ high s)
        (λ ok f. beside ok (failing f)) (λ ok i. beside ok (rest i))
        (λ ok w b o. beside ok (writing (omega (arith, good.phase)) o))
        (λ ok w b o. beside ok (reading (record { phase = omega (arith, good.phase); written = o })))

    -- 12
    pub event-refuses-ack : ((event_of g page).answer ≡ number not_an_ack) ↔ (Accepted g page × RefusesAck g page)
    event-refuses-ack =
        event-exactly (number not_an_ack) (λ (_ : After). RefusesAck g page) (omega arith) (λ f. (λ e. before f, λ x. refl))
        (λ i. neither (differs (omega arith)) (elim [ before f ↦ omega arith | now a _ ↦ omega (arith, a.phase) ]))
        (λ p o. neither (differs (omega (arith, (wrote-tells g page (room g page)).low)))
        (elim [ before f ↦ omega arith | now a _ ↦ false≢true (sym a.written ∙ o) ]))
        (λ a. let x = read-exactly (judged (refused not_an_ack)) refl in
        (λ e. now a (x.0 e), elim [ before f ↦ absurd (omega (arith, a.phase)) | now _ e ↦ x.1 e ]))

    -- 1, with what the reader says of the ack
    pub acked-exactly : (r : Reading) → ((event_of g page).answer ≡ acked r) ↔ (Accepted g page × (Awaits g × (ack_seen g page ≡ judged (value r))))
    acked-exactly r =
        event-exactly (acked r) (λ (_ : After). Awaits g × (ack_seen g page ≡ judged (value r))) (omega arith)
        (λ f. neither (differs (omega arith)) (λ x. omega (arith, x.0.phase)))
        (λ i. neither (differs (omega arith)) (λ x. omega (arith, x.0.phase)))
        (λ p o. neither (differs (wrote-tells g page (room g page)).no-ack) (λ x. false≢true (sym x.0.written ∙ o)))
        (λ a. beside a (read-exactly (judged (value r)) refl))

    -- 2 while octets of the request are owed after the event
    pub owed-exactly : ((event_of g page).answer ≡ number request_owed)
        ↔ (Accepted g page × ((g.phase ≡ outstanding) × (owes (event_of g page).state ≡ true)))
    owed-exactly =
        event-exactly (number request_owed) (λ (a : After). (g.phase ≡ outstanding) × (owes a.state ≡ true)) (omega arith)
        (λ f. neither (differs (omega arith)) (λ x. omega (arith, x.0)))
        (λ i. neither (differs (omega arith)) (λ x. omega (arith, x.0)))
        (λ p o. beside p (wrote-tells g page (room g page)).more)
        (λ a. neither
        (read-ways g page (λ (x : After). x.answer ≡ number request_owed → ⊥) (λ w. differs (omega arith)) (λ r w y. differs (omega arith))
        (differs (omega arith)))
        (λ x. false≢true (sym (read-owes ∙ a.written) ∙ x.1)))

    -- 0
    pub pending-exactly : ((event_of g page).answer ≡ number pending) ↔ (Accepted g page × Pends g page (event_of g page))
    pending-exactly =
        event-exactly (number pending) (λ (a : After). Pends g page a) (omega arith)
        (λ f. neither (differs (omega arith))
        (elim [ no-request i ↦ omega arith | last_written p _ _ ↦ omega arith | ack-in-part w _ ↦ omega (arith, w.phase) ]))
        (λ i. (λ e. no-request i, λ x. refl))
        (λ p o. let x = (wrote-tells g page (room g page)).none in (
          λ e. last_written p o (x.0 e),
          elim [
            | no-request i ↦ absurd (omega arith)
            | last_written _ _ all ↦ x.1 all
            | ack-in-part w _ ↦ absurd (false≢true (sym w.written ∙ o))
          ],
        ))
        (λ a. let x = read-exactly part refl in (
          λ e. ack-in-part a (x.0 e),
          elim [
            | no-request i ↦ absurd (omega (arith, a.phase))
            | last_written _ o _ ↦ absurd (false≢true (sym a.written ∙ o))
            | ack-in-part _ e ↦ x.1 e
          ],
        ))

  -- ---- a start

  module _ (request : Outcome (List ℕ)) (asked : Asked request) where
    start-tells : Tells (start_of request g page)
    start-tells =
        start-ways g page request Tells (λ k s. s.exactly) (λ ok f. omega arith) (λ ok w b. omega arith)
        (λ ok i k e. let x = asked-refused request asked k e in omega arith)
        (λ ok i m e. let x = (wrote-tells (begun g m) page (room g page)).low in omega arith)

    pub start-refuses-page : ((start_of request g page).answer ≡ number page_wrong) ↔ (length page ≡ page_size → ⊥)
    start-refuses-page = chain (told-exactly _ page_wrong (omega arith)) start-tells.wrong-page

    pub start-refuses-requests : ((start_of request g page).answer ≡ number requests_wrong)
        ↔ ((length page ≡ page_size) × (area_size < unread_requests g page))
    start-refuses-requests = chain (told-exactly _ requests_wrong (omega arith)) start-tells.wrong-requests

    pub start-refuses-responses : ((start_of request g page).answer ≡ number responses_wrong)
        ↔ ((length page ≡ page_size) × (unread_requests g page ≤ area_size) × (area_size < unread_acks g page))
    start-refuses-responses = chain (told-exactly _ responses_wrong (omega arith)) start-tells.wrong-responses

    -- an answer that is none of 3, 4 and 5 is told apart once the counts are good
    start-exactly : (t : Told) (C : After → Type 0) → (request_owed < told_number t → responses_wrong < told_number t)
        → (g.phase ≡ failed → (number not_an_ack ≡ t) ↔ C (refused_with not_an_ack g page))
        → ((g.phase ≡ failed → ⊥) → (g.phase ≡ idle → ⊥) → (number request_outstanding ≡ t) ↔ C (refused_with request_outstanding g page))
        → (g.phase ≡ idle → (k : ℕ) → request ≡ refused k → WriterRefuses k → (number k ≡ t) ↔ C (refused_with k g page))
        → (g.phase ≡ idle → (m : List ℕ) → request ≡ value m
        → ((wrote_on (begun g m) page (room g page)).answer ≡ t) ↔ C (wrote_on (begun g m) page (room g page)))
        → ((start_of request g page).answer ≡ t) ↔ (Accepted g page × C (start_of request g page))
    start-exactly t C high failing busy refusing beginning =
        start-ways g page request (λ (a : After). (a.answer ≡ t) ↔ (Accepted g page × C a)) (λ k s. stopped-exactly k t _ high s)
        (λ ok f. beside ok (failing f)) (λ ok w b. beside ok (busy w b))
        (λ ok i k e. beside ok (refusing i k e (asked-refused request asked k e))) (λ ok i m e. beside ok (beginning i m e))

    -- then 12, once an ack was refused
    pub start-refuses-failed : ((start_of request g page).answer ≡ number not_an_ack) ↔ (Accepted g page × (g.phase ≡ failed))
    start-refuses-failed =
        start-exactly (number not_an_ack) (λ (_ : After). g.phase ≡ failed) (omega arith) (λ f. (λ e. f, λ x. refl))
        (λ w b. neither (differs (omega arith)) w) (λ i k e x. neither (differs (omega arith)) (omega arith))
        (λ i m e. neither (differs (omega (arith, (wrote-tells (begun g m) page (room g page)).low))) (omega arith))

    module _ (good : Good g) where
      -- then 13, a request begun while one is outstanding
      pub start-refuses-outstanding : ((start_of request g page).answer ≡ number request_outstanding) ↔ (Accepted g page × (g.phase ≡ outstanding))
      start-refuses-outstanding =
          start-exactly (number request_outstanding) (λ (_ : After). g.phase ≡ outstanding) (omega arith)
          (λ f. neither (differs (omega arith)) (omega arith)) (λ w b. (λ e. omega (arith, good.phase), λ x. refl))
          (λ i k e x. neither (differs (omega arith)) (omega arith))
          (λ i m e. neither (differs (omega (arith, (wrote-tells (begun g m) page (room g page)).low))) (omega arith))

      -- then the writer's 8 or 11
      pub start-refuses-request : (k : ℕ) → request ≡ refused k → ((start_of request g page).answer ≡ number k) ↔ (Accepted g page × (g.phase ≡ idle))
      start-refuses-request k no-message =
          let own = asked-refused request asked k no-message in
          start-exactly (number k) (λ (_ : After). g.phase ≡ idle) (omega arith) (λ f. neither (differs (omega arith)) (omega arith))
          (λ w b. neither (differs (omega arith)) b)
          (λ i j e x. (λ _. i, λ _. ap number (refused-same j k (sym e ∙ no-message))))
          (λ i m e. absurd (value-not-refused m k (sym e ∙ no-message)))

      -- and else the request is begun: 2 while octets of it are owed after the start, else 0
      module _ (m : List ℕ) (accepts : request ≡ value m) where
        begun-exactly : (k : ℕ) (owing : Bool) → k ≤ request_owed
            → ((l : List ℕ) → ((wrote_on (begun g l) page (room g page)).answer ≡ number k)
            ↔ (owes (wrote_on (begun g l) page (room g page)).state ≡ owing))
            → ((start_of request g page).answer ≡ number k)
            ↔ (Accepted g page × ((g.phase ≡ idle) × (owes (start_of request g page).state ≡ owing)))
        begun-exactly k owing low wrote =
            start-exactly (number k) (λ (a : After). (g.phase ≡ idle) × (owes a.state ≡ owing)) (omega arith)
            (λ f. neither (differs (omega arith)) (λ c. omega (arith, c.0))) (λ w b. neither (differs (omega arith)) (λ c. b c.0))
            (λ i j e x. absurd (value-not-refused m j (sym accepts ∙ e))) (λ i l e. beside i (wrote l))

        pub start-owed-exactly : ((start_of request g page).answer ≡ number request_owed)
            ↔ (Accepted g page × ((g.phase ≡ idle) × (owes (start_of request g page).state ≡ true)))
        start-owed-exactly = begun-exactly request_owed true (omega arith) (λ l. (wrote-tells (begun g l) page (room g page)).more)

        pub start-pending-exactly : ((start_of request g page).answer ≡ number pending)
            ↔ (Accepted g page × ((g.phase ≡ idle) × (owes (start_of request g page).state ≡ false)))
        start-pending-exactly = begun-exactly pending false (omega arith) (λ l. (wrote-tells (begun g l) page (room g page)).none)
