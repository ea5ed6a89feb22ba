-- What stands at a place of a capture, by the lengths there.
use Rattle.octets.specs.Prelude.{◌≡◌, refl, sym, ap, ◌∙◌, List, true, false, ◌&&◌, ◌⊎◌, inl, inr, ℕ, ◌+◌, ◌-◌, ◌≤◌, ◌<◌, arith}
use Rattle.octets.specs.Prelude.{length, drop, length-drop, leb, le-leb, lt-leb, eq-eqb, ne_eqb}
use Rattle.octets.specs.Outcome.{value, refused}
use Rattle.capture.specs.Header.{number_in, order_of}
use Rattle.capture.specs.Records.{record_wrong, record_header, max_record, captured_length, begins_record, no_more, between, step_in, step_at}
use Rattle.capture.specs.declared.Order.{Order}
use Rattle.capture.proofs.Orders.{number-in-drop}

-- a record of n captured octets is good where it is not too long and all of it is there
pub begins : (o : Order) (xs : List ℕ) (n : ℕ) → n ≡ captured_length o xs → n ≤ max_record → record_header + n ≤ length xs → begins_record o xs ≡ true
unfolding begins_record
begins o xs n e short whole = rw (← e, le-leb n max_record short, le-leb (record_header + n) (length xs) whole) refl

pub begins-not : (o : Order) (xs : List ℕ) (n : ℕ) → n ≡ captured_length o xs → (max_record < n) ⊎ (length xs < record_header + n)
    → begins_record o xs ≡ false
unfolding begins_record
begins-not o xs n e (inl long) = rw (← e, lt-leb n max_record long) refl
begins-not o xs n e (inr cut) = rw (← e, lt-leb (record_header + n) (length xs) cut) (no_second (leb n max_record))
  where
    no_second : (t : _) → (t && false) ≡ false
    no_second true = refl
    no_second false = refl

module _ (xs : List ℕ) (at : ℕ) where
  pub step-ended : length xs ≤ at → value no_more ≡ step_at xs at
  unfolding step_in
  step-ended h = rw (length-drop at xs, eq-eqb (length xs - at) 0 (omega arith)) refl

  module _ (some : at < length xs) where
    -- a place where octets are left, with no good record
    bad-step : begins_record (order_of xs) (drop at xs) ≡ false → refused record_wrong ≡ step_at xs at
    unfolding step_in
    bad-step bad = rw (bad, length-drop at xs, ne_eqb (length xs - at) 0 (omega arith)) refl

    -- fewer octets than a record's header has
    pub step-short : length xs - at < record_header → refused record_wrong ≡ step_at xs at
    step-short h =
        let n : ℕ = captured_length (order_of xs) (drop at xs) in
        bad-step (begins-not (order_of xs) (drop at xs) n refl (inr (rw (length-drop at xs) (omega arith))))

    module _ (o : Order) (own : o ≡ order_of xs) (n : ℕ) (e : n ≡ number_in o 4 xs (at + 8)) where
      captured : n ≡ captured_length (order_of xs) (drop at xs)
      captured = e ∙ sym (number-in-drop o 4 at xs 8) ∙ ap (λ (x : Order). captured_length x (drop at xs)) own

      pub step-record : n ≤ max_record → record_header + n ≤ length xs - at
          → value (between (at + record_header) (at + record_header + n)) ≡ step_at xs at
      unfolding step_in
      step-record short whole =
          let good = begins (order_of xs) (drop at xs) n captured short (rw (length-drop at xs) whole) in
          rw (good, ← captured, length-drop at xs, ne_eqb (length xs - at) 0 (omega arith)) refl

      pub step-long : max_record < n → refused record_wrong ≡ step_at xs at
      step-long h = bad-step (begins-not (order_of xs) (drop at xs) n captured (inl h))

      pub step_cut : length xs - at < record_header + n → refused record_wrong ≡ step_at xs at
      step_cut h = bad-step (begins-not (order_of xs) (drop at xs) n captured (inr (rw (length-drop at xs) h)))

-- what `step_at` returns, in the order of its tests
pub ruleset ends = (step-ended, step-short, step-long, step_cut, step-record)
