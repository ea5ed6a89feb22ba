-- What the step at a place of a capture says of the records from there on.
use Rattle.octets.specs.Prelude.{◌≡◌, refl, ap, ◌∙◌, List, [], true, false, ℕ, ◌+◌, ◌-◌, ◌≤◌, ◌<◌, arith, length}
use Rattle.octets.specs.Prelude.{take, drop, length-drop, drop_of_length-le, drop-drop, eqb, eqb-true, eqb-false}
use Rattle.octets.specs.Outcome.{Outcome, value, refused}
use Rattle.octets.proofs.Truth.{by-test}
use Rattle.octets.proofs.Outcomes.{value-not-refused}
use Rattle.capture.specs.Header.{order_of}
use Rattle.capture.specs.Records.{record_wrong, record_header, captured_length, begins_record, Next, no_more, between, step_in}
use Rattle.capture.specs.Records.{step_at, no_record, one_more, fall_of, all_of}
use Rattle.capture.specs.declared.Order.{Order}
use Rattle.capture.proofs.Falls.{begins-fits, fall-next, fall-none, no-octets}

-- a good record from a to b at the place `at`: it stands inside the capture, and is the first of those from there on
pub record IsRecord (xs : List ℕ) (at a b : ℕ) : Type 0 where
  pub start : a ≡ at + record_header
  pub forward : a ≤ b
  pub inside : b ≤ length xs
  pub fall : fall_of (order_of xs) (drop at xs) ≡ one_more (take (b - a) (drop a xs)) (fall_of (order_of xs) (drop b xs))

module _ (xs : List ℕ) (at : ℕ) where
  abbrev o : Order
  o = order_of xs

  abbrev n : ℕ
  n = captured_length o (drop at xs)

  -- the step, by its two tests
  step-ways : (P : Outcome Next → Type 0) → (length (drop at xs) ≡ 0 → P (value no_more))
      → (begins_record o (drop at xs) ≡ true → P (value (between (at + record_header) (at + record_header + n))))
      → (eqb (length (drop at xs)) 0 ≡ false → begins_record o (drop at xs) ≡ false → P (refused record_wrong)) → P (step_at xs at)
  unfolding step_in
  step-ways P ended good bad =
      by-test P (eqb (length (drop at xs)) 0) _ _ (λ t. ended (eqb-true _ _ t))
      (λ t. by-test P (begins_record o (drop at xs)) _ _ good (bad t))

  pub found-record : (a b : ℕ) → step_at xs at ≡ value (between a b) → IsRecord xs at a b
  found-record a b =
      step-ways (λ (x : Outcome Next). x ≡ value (between a b) → IsRecord xs at a b)
      (λ _ z. let c : ◌≡◌ {A = ℕ} 0 1 = cc in absurd (omega arith))
      (λ u z.
      let start : a ≡ at + record_header = cc in
      let end : b ≡ at + record_header + n = cc in
      let fits = (begins-fits o (drop at xs) u).1 in
      let left = length-drop at xs in
      let size : b - a ≡ n = omega arith in
      let from : drop record_header (drop at xs) ≡ drop a xs = rw start (drop-drop record_header at xs) in
      let place : at + (record_header + n) ≡ b = omega arith in
      let behind : drop (record_header + n) (drop at xs) ≡ drop b xs = rw (← place) (drop-drop (record_header + n) at xs) in
      record {
        start = start;
        forward = omega arith;
        inside = omega arith;
        fall = rw (size, ← from, ← behind) (fall-next o (drop at xs) u);
      })
      (λ _ _ z. let c : ◌≡◌ {A = ℕ} 0 1 = cc in absurd (omega arith))

  pub found-end : step_at xs at ≡ value no_more → fall_of (order_of xs) (drop at xs) ≡ no_record []
  found-end =
      step-ways (λ (x : Outcome Next). x ≡ value no_more → fall_of o (drop at xs) ≡ no_record [])
      (λ empty z.
      let past : length xs ≤ at = omega (arith, length-drop at xs) in
      fall-none o (drop at xs) (no-octets o (drop at xs) (omega arith)) ∙ ap no_record (drop_of_length-le xs past))
      (λ _ z. let c : ◌≡◌ {A = ℕ} 0 1 = cc in absurd (omega arith)) (λ _ _ z. let c : ◌≡◌ {A = ℕ} 0 1 = cc in absurd (omega arith))

  pub found-bad : (n : ℕ) → step_at xs at ≡ refused n → all_of (fall_of (order_of xs) (drop at xs)) ≡ refused record_wrong
  found-bad k =
      step-ways (λ (x : Outcome Next). x ≡ refused k → all_of (fall_of o (drop at xs)) ≡ refused record_wrong)
      (λ _ z. absurd (value-not-refused no_more k z)) (λ _ z. absurd (value-not-refused _ k z))
      (λ t u z. ap all_of (fall-none o (drop at xs) u) ∙ rw t refl)

  -- a wrong record stands where octets are left
  pub found-some : (n : ℕ) → step_at xs at ≡ refused n → at < length xs
  found-some k =
      step-ways (λ (x : Outcome Next). x ≡ refused k → at < length xs) (λ _ z. absurd (value-not-refused no_more k z))
      (λ _ z. absurd (value-not-refused _ k z))
      (λ t u z. omega (arith, length-drop at xs, eqb-false (length (drop at xs)) 0 t))
