-- The fewest digits that hold a number: `places_in` counts the decimal ones, and a bound on the number bounds them.
use Rattle.octets.specs.Prelude.{◌≡◌, ◌∙◌, ap, List, take, length, length-take, ℕ, zero, suc, ◌-◌, ◌/◌, ◌^◌, ◌<◌, ◌≤◌, pow-suc}
use Rattle.octets.specs.Prelude.{dec_lt, arith, lt-ltb, le-ltb}
use native.Mathlib.Nat.{pow-le-pow_right}
use Rattle.io.specs.Digits.{IsDigitCount, last_digits}
use Rattle.text.specs.Ascii.{places_in, decimal, hex8}

-- where m digits hold n, the fewest are at most m
pub fewest-most : (b least n k m : ℕ) → 0 < b → least ≤ m → n < b ^ m → IsDigitCount b least n k → k ≤ m
fewest-most b least n k m hb hl hn q =
    elim (dec_lt m k) [
      | yes l ↦ absurd (omega (arith, q.2 (omega arith), pow-le-pow_right {n = b} hb {i = m} {j = k - 1} (omega arith)))
      | no o ↦ omega arith
    ]

one-digit : (n k : ℕ) → n < 10 → IsDigitCount 10 1 n k → k ≡ 1
one-digit n k h q = omega (arith, q.0, fewest-most 10 1 n k 1 (omega arith) (omega arith) h q)

less_one : (j : ℕ) → 10 ^ (suc j - 1) ≡ 10 ^ j
less_one j = ap (λ (x : ℕ). 10 ^ x) (omega arith)

-- a number of two digits or more takes one more than its tenth
fewest-tenth : (n j : ℕ) → 10 ≤ n → IsDigitCount 10 1 n (suc j) → IsDigitCount 10 1 (n / 10) j
fewest-tenth n zero h q = absurd (omega (arith, q.1))
fewest-tenth n (suc j) h q = (
  omega arith,
  omega (arith, q.1, pow-suc 10 (suc j)),
  λ l. omega (arith, q.2 (omega arith), pow-suc 10 j, less_one j, less_one (suc j)),
)

fewest-in : (f n k : ℕ) → n ≤ f → IsDigitCount 10 1 n k → k ≡ places_in f n
fewest-in zero n k h q = one-digit n k (omega arith) q
fewest-in (suc f) n zero h q = absurd (omega arith)
fewest-in (suc f) n (suc j) h q =
    elim (dec_lt n 10) [
      | yes l ↦ rw (lt-ltb n 10 l) (one-digit n (suc j) l q)
      | no l ↦ rw (le-ltb n 10 (omega arith)) (ap suc (fewest-in f (n / 10) j (omega arith) (fewest-tenth n j (omega arith) q)))
    ]

-- `io::decimal` writes as many digits as `decimal` has
pub fewest-decimal : (n k : ℕ) → IsDigitCount 10 1 n k → k ≡ places_in n n
fewest-decimal n k q = fewest-in n n k (omega arith) q

pub decimal_made : (out : List ℕ) (n k : ℕ) → IsDigitCount 10 1 n k → take k out ≡ last_digits 10 k n → take k out ≡ decimal n
unfolding decimal
decimal_made out n k q e = e ∙ ap (λ (j : ℕ). last_digits 10 j n) (fewest-decimal n k q)

-- `io::hex` writes eight digits of any 32-bit number
eight_digits : (n k : ℕ) → n < 2 ^ 32 → IsDigitCount 16 8 n k → k ≡ 8
eight_digits n k h q = omega (arith, q.0, fewest-most 16 8 n k 8 (omega arith) (omega arith) h q)

pub hex_length : (out : List ℕ) (n k : ℕ) → n < 2 ^ 32 → IsDigitCount 16 8 n k → length (take k out) ≤ 8
hex_length out n k h q = omega (arith, length-take k out, eight_digits n k h q)

pub hex_made : (out : List ℕ) (n k : ℕ) → n < 2 ^ 32 → IsDigitCount 16 8 n k → take k out ≡ last_digits 16 k n → take k out ≡ hex8 n
unfolding hex8
hex_made out n k h q e = e ∙ ap (λ (j : ℕ). last_digits 16 j n) (eight_digits n k h q)
