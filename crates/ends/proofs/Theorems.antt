-- The two ends together: every request that the writer accepts is answered as carrying it out says, one after the other.
use Rattle.octets.specs.Prelude.{◌≡◌, refl, ap, ap₂, ◌∙◌, List, [], ◌∷◌, Bool, true, false, cond, ℕ, ◌+◌, ◌≤◌, ◌<◌, arith, length}
use Rattle.octets.specs.Prelude.{replicate, length-replicate, leb, leb-true, leb-false}
use lib.ListN.{get_or-replicate}
use Rattle.octets.specs.Outcome.{value}
use Rattle.octets.specs.Numbers.{number_at}
use Rattle.octets.proofs.Numbers.{number_same}
use Rattle.octets.proofs.Outcomes.{value_same}
use Rattle.messages.specs.Settings.{max_queues, Settings}
use Rattle.messages.specs.Requests.{carried_message}
use Rattle.page.specs.Page.{page_size, area_size, req_cons_at, rsp_prod_at, count_in}
use Rattle.ring.specs.Reading.{message_length}
use Rattle.backend.specs.Streams.{settings_after}
use Rattle.backend.proofs.Goodness.{good-interface}
use Rattle.guest_steps.specs.Guest.{max_request, Told, number, acked, pending}
use Rattle.frontend.proofs.Goodness.{good-at-setup, good-started}
use Rattle.ends.specs.Ends.{Ends, fresh_ends, started, round, after_rounds, told_in_rounds, answer_of, finished}
use Rattle.ends.specs.Ends.{Made, AllMade, none, more, Agree, Served, told_of_all, finished_all, expected_of_all, AllServed}
use Rattle.ends.proofs.Messages.{made_shaped}
use Rattle.ends.proofs.Writing.{starts}
use Rattle.ends.proofs.Rounds.{GoodEnds, good_round, middle-round, last-round}

-- from any pair of ends that are idle and agree: a request is served within the rounds named, and leaves such a pair
pub request-served : (e : Ends) (m : List ℕ) → Made m → Agree e → Served e m
unfolding told_in_rounds after_rounds
request-served e m made agree =
    let x = by (leb (length m) area_size) refl in
    record { told = x.0; settings = x.1; agree = x.2 }
  where
    long : length m ≡ message_length m
    long = (made_shaped m made).0

    short : length m ≤ max_request
    short = (made_shaped m made).1

    good : GoodEnds (started m e)
    good =
        record {
          guest = good-started (value m) e.guest e.page (λ x same. rw (← value_same m x same) short) agree.guest;
          host = agree.host;
        }

    -- one round where the area holds the message, and else two
    by : (b : Bool) → leb (length m) area_size ≡ b
        → (told_in_rounds (cond b 1 2) (started m e)
        ≡ cond b (acked (answer_of e.host.settings m) ∷ []) (number pending ∷ acked (answer_of e.host.settings m) ∷ []))
        × ((after_rounds (cond b 1 2) (started m e)).host.settings ≡ (carried_message e.host.settings m []).settings)
        × Agree (after_rounds (cond b 1 2) (started m e))
    by true t =
        let few : length m ≤ area_size = leb-true (length m) area_size t in
        let sent = starts m e agree (length m) (omega arith) in
        let x = last-round m 0 (length m) (started m e) sent long (omega (arith, long)) (omega arith) (omega arith) refl good in
        (ap (λ (a : Told). a ∷ []) x.0, x.1, x.2)
    by false t =
        let many : area_size < length m = leb-false (length m) area_size t in
        let sent = starts m e agree area_size (omega arith) in
        let y = middle-round m 0 area_size (started m e) sent long (omega arith) (omega arith) (omega arith) many (omega (arith, short)) in
        let x =
        last-round m area_size (length m) (round (started m e)) y.1 long many (omega arith) (omega (arith, short)) refl
        (good_round (started m e) good) in (
          ap₂ (λ (a b : Told). a ∷ b ∷ []) y.0 (x.0 ∙ ap (λ (s : Settings). acked (answer_of s m)) y.2),
          x.1 ∙ ap (λ (s : Settings). (carried_message s m []).settings) y.2,
          x.2,
        )

-- so every later request is, one after the other on the same page
pub every-request-served : (ms : List (List ℕ)) (e : Ends) → AllMade ms → Agree e → AllServed e ms
unfolding told_of_all finished_all expected_of_all settings_after
every-request-served ms e none agree = record { told = refl; settings = refl; agree = agree }
every-request-served ms e (more m rest made all) agree =
    let first = request-served e m made agree in
    let others = every-request-served rest (finished e m) all first.agree in
    record {
      told =
          ap₂ (λ (x : List Told) (xs : List (List Told)). x ∷ xs) first.told
          (others.told ∙ ap (λ (s : Settings). expected_of_all s rest) first.settings);
      settings = others.settings ∙ ap (λ (s : Settings). settings_after s rest) first.settings;
      agree = others.agree;
    }

-- a count on a zeroed page
zero-count : (n at : ℕ) → at + 4 ≤ n → count_in (replicate n 0) at ≡ 0
unfolding number_at
zero-count n at h = number_same 4 (replicate n 0) [] at 0 (λ k l. get_or-replicate n (at + k) 0 0 (omega arith))

-- ends fresh from setup on a zeroed page are such a pair
pub fresh-agree : (q : ℕ) → 1 ≤ q → q ≤ max_queues → Agree (fresh_ends q)
fresh-agree q some most =
    record {
      guest = good-at-setup;
      host = good-interface q some most;
      size = length-replicate {A = ℕ} page_size 0;
      no-request = refl;
      no-ack = refl;
      nothing_read = refl;
      requests = refl;
      responses = refl;
      req-cons = zero-count page_size req_cons_at (omega arith);
      rsp-prod = zero-count page_size rsp_prod_at (omega arith);
    }

-- the fresh case
pub fresh-requests-served : (q : ℕ) (ms : List (List ℕ)) → 1 ≤ q → q ≤ max_queues → AllMade ms → AllServed (fresh_ends q) ms
fresh-requests-served q ms some most made = every-request-served ms (fresh_ends q) made (fresh-agree q some most)
