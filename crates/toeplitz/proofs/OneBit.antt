-- Inputs with a single bit set: their octets, their bits, and their hash, which is the window at that bit.
use Rattle.octets.specs.Prelude.{◌≡◌, refl, ap, ◌∙◌, List, ℕ, zero, suc, ◌+◌, ◌*◌, ◌/◌, ◌%◌, ◌^◌, ◌-◌, ◌<◌, ℕ_discrete, arith, length, get_or}
use Rattle.octets.specs.Prelude.{replicate, length-set, length-replicate, get_or-set_same, get_or-set_other, dec_lt, pow-suc}
use native.Mathlib.Nat.{zero-div, one-mul, div-eq_of_lt, mul-mod_left}
use lib.Pow.{pow-lt, pow-add, shl-shr}
use Rattle.toeplitz.specs.Hash.{bit_at, window_at, when_set, term_at, xor_below, published_hash}
use Rattle.toeplitz.specs.TwoWay.{input_size, IsInput, one_bit}
use Rattle.toeplitz.proofs.Sums.{below_one}

-- the bits of a power of two: its own, those below and those above
own-bit : (q : ℕ) → 2 ^ q / 2 ^ q % 2 ≡ 1
own-bit q = ap (λ (x : ℕ). x % 2) (rw one-mul at (shl-shr 1 q))

lower-bit : (k q : ℕ) → 2 ^ (suc k + q) / 2 ^ q % 2 ≡ 0
lower-bit k q = rw (pow-add 2 (suc k) q, shl-shr, pow-suc) (mul-mod_left (2 ^ k) 2)

other-bit : (p q : ℕ) → (p ≡ q → ⊥) → 2 ^ p / 2 ^ q % 2 ≡ 0
other-bit p q d =
    elim (dec_lt p q) [
      | yes l ↦ rw (div-eq_of_lt (pow-lt l)) refl
      | no n ↦ ap (λ (x : ℕ). 2 ^ x / 2 ^ q % 2) (omega arith) ∙ lower-bit (p - q - 1) q
    ]

zeros : (n i : ℕ) → get_or {A = ℕ} (replicate n 0) i 0 ≡ 0
zeros zero i = refl
zeros (suc n) zero = refl
zeros (suc n) (suc i) = zeros n i

module _ (n b : ℕ) (h : b < n * 8) where
  pub length-one : length (one_bit n b) ≡ n
  unfolding one_bit
  length-one = simp (length-set, length-replicate)

  octet-same : get_or (one_bit n b) (b / 8) 0 ≡ 2 ^ (7 - b % 8)
  unfolding one_bit
  octet-same = get_or-set_same (replicate n 0) (b / 8) _ 0 (simp length-replicate (omega arith))

  octet-other : (k : ℕ) → (k ≡ b / 8 → ⊥) → get_or (one_bit n b) k 0 ≡ 0
  unfolding one_bit
  octet-other k m = get_or-set_other (replicate n 0) (b / 8) k _ 0 m ∙ zeros n k

  octets-one : (i : ℕ) → get_or (one_bit n b) i 0 < 256
  octets-one i =
      elim (ℕ_discrete i (b / 8)) [
        | yes e ↦ rw (e, octet-same) (pow-lt {i = 7 - b % 8} {j = 8} (omega arith))
        | no m ↦ rw (octet-other i m) (omega arith)
      ]

  bit-same : bit_at (one_bit n b) b ≡ 1
  bit-same = rw octet-same (own-bit (7 - b % 8))

  bit-other : (i : ℕ) → i < n * 8 → (i ≡ b → ⊥) → bit_at (one_bit n b) i ≡ 0
  bit-other i l d =
      elim (ℕ_discrete (i / 8) (b / 8)) [
        | yes e ↦ rw (e, octet-same) (other-bit (7 - b % 8) (7 - i % 8) (λ q. d (omega arith)))
        | no m ↦ rw (octet-other (i / 8) m, zero-div) refl
      ]

-- it is an input of its type
pub one-is-input : (t b : ℕ) → b < input_size t * 8 → IsInput t (one_bit (input_size t) b)
one-is-input t b h = record { size = length-one (input_size t) b h; octets = octets-one (input_size t) b h }

-- a sum over the set bits of a single-bit input is its one term
pub sum_one : (w : ℕ → ℕ) (n b : ℕ) → b < n * 8 → xor_below (λ i. when_set (bit_at (one_bit n b) i) (w i)) (n * 8) ≡ w b
unfolding when_set
sum_one w n b h =
    below_one _ (n * 8) b h (λ i l d. ap (λ (x : ℕ). when_set x (w i)) (bit-other n b h i l d))
    ∙ ap (λ (x : ℕ). when_set x (w b)) (bit-same n b h)

-- the hash of a single-bit input is the window at its bit
pub hash-one : (key : List ℕ) (n b : ℕ) → b < n * 8 → published_hash key (one_bit n b) ≡ window_at key b
unfolding published_hash term_at
hash-one key n b h =
    ap (λ (m : ℕ). xor_below (term_at key (one_bit n b)) (m * 8)) (length-one n b h) ∙ sum_one (window_at key) n b h
