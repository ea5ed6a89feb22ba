-- The records into which octets fall: one after the other, whatever number of steps is allowed.
use Rattle.octets.specs.Prelude.{◌≡◌, refl, sym, ap, ◌∙◌, List, true, false, cond, inr, ℕ, zero, suc, ◌+◌, ◌-◌, ◌≤◌, arith}
use Rattle.octets.specs.Prelude.{length, length-drop, leb-true}
use Rattle.octets.proofs.Truth.{both_true, by-test}
use Rattle.capture.specs.Records.{record_header, max_record, captured_length, begins_record, first_record, behind_record}
use Rattle.capture.specs.Records.{Fall, no_record, one_more, fall_within, fall_of}
use Rattle.capture.specs.declared.Order.{Order}
use Rattle.capture.proofs.Steps.{begins-not}

-- what a good record at the start says of the lengths
pub begins-fits : (o : Order) (xs : List ℕ) → begins_record o xs ≡ true
    → (captured_length o xs ≤ max_record) × (record_header + captured_length o xs ≤ length xs)
unfolding begins_record
begins-fits o xs e =
    let both = (both_true _ _).0 e in
    (leb-true _ _ both.0, leb-true _ _ both.1)

module _ (o : Order) where
  -- one step where no good record stands
  within_none : (n : ℕ) (xs : List ℕ) → begins_record o xs ≡ false → fall_within n o xs ≡ no_record xs
  unfolding fall_within
  within_none zero xs e = refl
  within_none (suc n) xs e = rw e refl

  -- what holds of octets with no record, and of a record more, holds of what octets fall into
  pub fall-ways : (P : List ℕ → Fall → Type 0) → ((xs : List ℕ) → P xs (no_record xs))
      → ((xs : List ℕ) (f : Fall) → begins_record o xs ≡ true → P (behind_record o xs) f → P xs (one_more (first_record o xs) f))
      → (n : ℕ) (xs : List ℕ) → P xs (fall_within n o xs)
  unfolding fall_within
  fall-ways P none more zero xs = none xs
  fall-ways P none more (suc n) xs =
      by-test (P xs) (begins_record o xs) _ _ (λ e. more xs _ e (fall-ways P none more n (behind_record o xs))) (λ e. none xs)

  pub no-octets : (xs : List ℕ) → length xs ≤ 0 → begins_record o xs ≡ false
  no-octets xs h = begins-not o xs (captured_length o xs) refl (inr (omega arith))

  -- as many steps as octets are enough: more give the same
  within-enough : (n m : ℕ) (xs : List ℕ) → length xs ≤ n → length xs ≤ m → fall_within n o xs ≡ fall_within m o xs
  unfolding fall_within
  within-enough zero m xs ln lm = sym (within_none m xs (no-octets xs ln))
  within-enough (suc n) zero xs ln lm = within_none (suc n) xs (no-octets xs lm)
  within-enough (suc n) (suc m) xs ln lm =
      let size = record_header + captured_length o xs in
      let less : length (behind_record o xs) ≡ length xs - size = length-drop size xs in
      let further = within-enough n m (behind_record o xs) (omega (arith, less)) (omega (arith, less)) in
      ap (λ (f : Fall). cond (begins_record o xs) (one_more (first_record o xs) f) (no_record xs)) further

  pub fall-next : (xs : List ℕ) → begins_record o xs ≡ true → fall_of o xs ≡ one_more (first_record o xs) (fall_of o (behind_record o xs))
  unfolding fall_within
  fall-next xs e =
      let fits = (begins-fits o xs e).1 in
      let n : ℕ = length xs - 1 in
      let less = length-drop (record_header + captured_length o xs) xs in
      let enough = within-enough n (length (behind_record o xs)) (behind_record o xs) (omega (arith, less)) (omega arith) in
      let long : length xs ≡ suc n = omega (arith, fits) in
      ap (λ (k : ℕ). fall_within k o xs) long ∙ rw e (ap (one_more (first_record o xs)) enough)

  pub fall-none : (xs : List ℕ) → begins_record o xs ≡ false → fall_of o xs ≡ no_record xs
  fall-none xs e = within_none (length xs) xs e
