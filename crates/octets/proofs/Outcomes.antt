-- Outcomes that are equal have equal values, or equal numbers of refusal; and what a call with one test answers.
use Rattle.octets.specs.Prelude.{◌≡◌, refl, sym, Bool, true, false, cond, ℕ, arith}
use Rattle.octets.specs.Outcome.{Outcome, value, refused}

module _ {A : Type 0} where
  pub value_same : (x y : A) → value x ≡ value y → x ≡ y
  value_same x y e = cc

  pub refused-same : (j k : ℕ) → ◌≡◌ {A = Outcome A} (refused j) (refused k) → j ≡ k
  refused-same j k e = cc

  pub value-not-refused : (x : A) (k : ℕ) → value x ≡ refused k → ⊥
  value-not-refused x k e =
      let z : ◌≡◌ {A = ℕ} 0 1 = cc in
      omega arith

  -- a value where the test passes, else a refusal
  pub test-value : (t : Bool) (x y : A) (k : ℕ) → cond t (value x) (refused k) ≡ value y → (t ≡ true) × (x ≡ y)
  test-value true x y k e = (refl, value_same x y e)
  test-value false x y k e = absurd (value-not-refused y k (sym e))

  -- and the refusal where it fails
  pub test-refused : (t : Bool) (x : A) (j k : ℕ) → cond t (value x) (refused j) ≡ refused k → (t ≡ false) × (k ≡ j)
  test-refused true x j k e = absurd (value-not-refused x k e)
  test-refused false x j k e = (refl, refused-same k j (sym e))
