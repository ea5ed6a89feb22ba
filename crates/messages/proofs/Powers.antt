-- Powers of two: `is_power_of_two` means what it says, and is told by n AND (n - 1), and by the number of bits set; and the listed
-- lengths.
use Rattle.octets.specs.Prelude.{◌≡◌, refl, sym, ap, ◌∙◌, ◌↔◌, Bool, true, false, false≢true, ℕ, zero, suc}
use Rattle.octets.specs.Prelude.{◌-◌, ◌*◌, ◌/◌, ◌%◌, ◌^◌, ◌≤◌, ◌<◌, pow-suc}
use Rattle.octets.specs.Prelude.{arith, bit_and, eqb, leb, eq-eqb, eqb-true, eqb-false, le-leb, lt-leb, leb-true, ℕ_discrete, dec_lt}
use mathlib.Core.Bool.{and-true, and-false}
use lib.Arith.{bin_ind, lt_of_le-ne}
use native.Mathlib.Nat.{mod_self}
use lib.Bits.{and_mask, and_step, and_self}
use lib.Count.{ones, ones_step}
use Rattle.std.specs.Prelude.{count_ones}
use Rattle.std.proofs.lemmas.Nat.{zero_from_ones, ones_le_self}
use lib.Pow.{pow-lt}
use Rattle.octets.proofs.Truth.{same_truth, both_true, by-test}
use Rattle.messages.specs.Settings.{max_entries, is_power_below, is_power_of_two, is_listed}

-- n is a power of two
abbrev pub IsPower : ℕ → Type 0
IsPower n = (k : ℕ) × (n ≡ 2 ^ k)

below_power : (b n : ℕ) → is_power_below b n ≡ true → IsPower n
unfolding is_power_below
below_power zero n e = absurd (false≢true e)
below_power (suc b) n e =
    by-test (λ (x : Bool). x ≡ true → IsPower n) (eqb n (2 ^ b)) _ _ (λ h _. (b, eqb-true _ _ h)) (λ h. below_power b n) e

power_below : (b n k : ℕ) → k < b → n ≡ 2 ^ k → is_power_below b n ≡ true
unfolding is_power_below
power_below zero n k l e = absurd (omega arith)
power_below (suc b) n k l e =
    by-test (λ (x : Bool). x ≡ true) (eqb n (2 ^ b)) _ _ (λ h. refl)
    (λ h. power_below b n k (lt_of_le-ne (omega arith) (λ q. eqb-false _ _ h (e ∙ ap (λ (i : ℕ). 2 ^ i) q))) e)

exponent-less : (k : ℕ) → k < 2 ^ k
exponent-less zero = omega arith
exponent-less (suc k) =
    let h : k < 2 ^ k = exponent-less k in
    rw pow-suc (omega arith)

pub power-exactly : (n : ℕ) → (is_power_of_two n ≡ true) ↔ IsPower n
unfolding is_power_of_two
power-exactly n = (below_power n n, λ p. power_below n n p.0 (rw p.1 (exponent-less p.0)) p.1)

power-and : (n : ℕ) → IsPower n → bit_and n (n - 1) ≡ 0
power-and n (k, e) = rw (e, and_mask (2 ^ k) k) (mod_self (2 ^ k))

-- an even number whose half is a power of two is one
double-power : (n : ℕ) → n % 2 ≡ 0 → IsPower (n / 2) → IsPower n
double-power n even (k, q) = (suc k, rw pow-suc (omega arith))

-- n AND (n - 1) for an even n is that of its half, doubled; for an odd n it is n - 1
and-half : (n : ℕ) → (0 < n / 2 → bit_and (n / 2) (n / 2 - 1) ≡ 0 → IsPower (n / 2)) → 0 < n → bit_and n (n - 1) ≡ 0 → IsPower n
and-half n half l e =
    let top : bit_and (n / 2) ((n - 1) / 2) ≡ 0 = omega (arith, and_step n (n - 1)) in
    elim (ℕ_discrete (n % 2) 0) [
      | yes even ↦
          let less : (n - 1) / 2 ≡ n / 2 - 1 = omega arith in
          double-power n even (half (omega arith) (rw less at top))
      | no odd ↦
          let same : (n - 1) / 2 ≡ n / 2 = omega arith in
          let none : n / 2 ≡ 0 = sym (and_self (n / 2)) ∙ rw same at top in
          (0, omega arith)
    ]

and-power : (n : ℕ) → 0 < n → bit_and n (n - 1) ≡ 0 → IsPower n
and-power = bin_ind (λ (n : ℕ). 0 < n → bit_and n (n - 1) ≡ 0 → IsPower n) (λ l. absurd (omega arith)) and-half

pub power-told : (n : ℕ) → 0 < n → eqb (bit_and n (n - 1)) 0 ≡ is_power_of_two n
power-told n l = same_truth _ _ (λ h. (power-exactly n).1 (and-power n l (eqb-true _ _ h))) (λ h. eq-eqb _ _ (power-and n ((power-exactly n).0 h)))

-- a power of two has one bit, and a number of one bit is a power: its half is one, or it is 1
power_one : (k : ℕ) → count_ones (2 ^ k) ≡ 1
unfolding ones
power_one zero = refl
power_one (suc k) =
    let half : 2 ^ k * 2 / 2 ≡ 2 ^ k = omega arith in
    rw (pow-suc 2 k, ones_step (2 ^ k * 2), half, power_one k) (omega arith)

one-half : (n : ℕ) → (count_ones (n / 2) ≡ 1 → IsPower (n / 2)) → count_ones n ≡ 1 → IsPower n
one-half n half e =
    let step = ones_step n in
    elim (ℕ_discrete (n % 2) 0) [
      | yes even ↦ double-power n even (half (omega arith))
      | no odd ↦ let none : n / 2 ≡ 0 = zero_from_ones (n / 2) (omega arith) in (0, omega arith)
    ]

one-power : (n : ℕ) → count_ones n ≡ 1 → IsPower n
one-power = bin_ind (λ (n : ℕ). count_ones n ≡ 1 → IsPower n) (λ e. absurd (omega (arith, ones_le_self 0))) one-half

pub one-bit-told : (n : ℕ) → eqb (count_ones n) 1 ≡ is_power_of_two n
one-bit-told n =
    same_truth _ _ (λ h. (power-exactly n).1 (one-power n (eqb-true _ _ h)))
    (λ h. let p = (power-exactly n).0 h in eq-eqb _ _ (rw p.1 (power_one p.0)))

-- of two powers, the smaller has the smaller exponent
pub exponent-most : (k j : ℕ) → 2 ^ k ≤ 2 ^ j → k ≤ j
exponent-most k j h =
    elim (dec_lt j k) [ yes l ↦ let more : 2 ^ j < 2 ^ k = pow-lt l in absurd (omega arith) | no n ↦ omega arith ]

-- a listed length is a power of two that is at most 128
pub listed-parts : (n : ℕ) → (is_listed n ≡ true) ↔ ((is_power_of_two n ≡ true) × (n ≤ max_entries))
unfolding is_listed
listed-parts n =
    let x = both_true (is_power_of_two n) (leb n max_entries) in
    (λ e. ((x.0 e).0, leb-true _ _ (x.0 e).1), λ p. x.1 (p.0, le-leb _ _ p.1))

pub listed-power : (n : ℕ) → n ≤ max_entries → is_power_of_two n ≡ is_listed n
unfolding is_listed
listed-power n h = rw (le-leb _ _ h) (sym (and-true (is_power_of_two n)))

pub listed-few : (n : ℕ) → max_entries < n → false ≡ is_listed n
unfolding is_listed
listed-few n h = rw (lt-leb _ _ h) (sym (and-false (is_power_of_two n)))
