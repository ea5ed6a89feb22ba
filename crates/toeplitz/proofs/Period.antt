-- A key that repeats every two octets: windows 16 bits apart are equal, and an input's bit and its mirror stand
-- a multiple of 16 bits apart.
use Rattle.octets.specs.Prelude.{◌≡◌, refl, sym, ap, ap₂, ◌∙◌, List, ℕ, zero, suc, ◌+◌, ◌*◌, ◌/◌, ◌%◌, ◌^◌, ◌-◌, ◌≤◌, ◌<◌, arith, get_or}
use Rattle.toeplitz.specs.Hash.{bit_at, bits_at, window_at}
use Rattle.toeplitz.specs.TwoWay.{size_of, RepeatsEveryTwo, agree, verdict}
use Rattle.toeplitz.proofs.Mirror.{part1, part2, part3, part4, place, mirror1, mirror2, mirror3, mirror4}
use Rattle.toeplitz.proofs.TwoWays.{mirrored, same-agree}

module _ (key : List ℕ) (r : RepeatsEveryTwo key) where
  bit-again : (i : ℕ) → i + 16 < 320 → bit_at key (i + 16) ≡ bit_at key i
  bit-again i h =
      let octet : (i + 16) / 8 ≡ i / 8 + 2 = omega arith in
      let place : (i + 16) % 8 ≡ i % 8 = omega arith in
      ap₂ (λ (x y : ℕ). get_or key x 0 / 2 ^ (7 - y) % 2) octet place
      ∙ ap (λ (x : ℕ). x / 2 ^ (7 - i % 8) % 2) (r (i / 8) (omega arith))

  bits-again : (i n : ℕ) → i + 16 + n ≤ 320 → bits_at key (i + 16) n ≡ bits_at key i n
  unfolding bits_at
  bits-again i zero h = refl
  bits-again i (suc n) h =
      let next : i + 16 + n ≡ i + n + 16 = omega arith in
      ap₂ (λ (x y : ℕ). x * 2 + y) (bits-again i n (omega arith)) (ap (bit_at key) next ∙ bit-again (i + n) (omega arith))

  windows-again : (m i : ℕ) → i + m * 16 + 32 ≤ 320 → window_at key (i + m * 16) ≡ window_at key i
  unfolding window_at
  windows-again zero i h = ap (window_at key) (omega arith)
  windows-again (suc m) i h =
      let next : i + suc m * 16 ≡ i + m * 16 + 16 = omega arith in
      ap (window_at key) next ∙ bits-again (i + m * 16) _ (omega arith) ∙ windows-again m i (omega arith)

  -- the windows at two places that are m * 16 bits apart
  apart : (m i j : ℕ) → j ≡ i + m * 16 → j + 32 ≤ 320 → window_at key i ≡ window_at key j
  apart m i j e h = sym (ap (window_at key) e ∙ windows-again m i (omega arith))

  -- addresses of h * 2 octets and ports of q * 2: a bit and its mirror are h * 16 or q * 16 bits apart
  mirror-same : (h q : ℕ) → size_of (h * 2) (q * 2) ≤ 36 → (i : ℕ) → i < size_of (h * 2) (q * 2) * 8
      → window_at key i ≡ mirrored key (h * 2) (q * 2) i
  mirror-same h q s i n =
      let a = h * 2 * 8 in
      let p = q * 2 * 8 in
      elim (place a p i (omega arith)) [
        | part1 l ↦ apart h i _ (omega (arith, mirror1 a p i l)) (omega (arith, mirror1 a p i l))
        | part2 g l ↦ sym (apart h _ i (omega (arith, mirror2 a p i g l)) (omega arith))
        | part3 g l ↦ apart q i _ (omega (arith, mirror3 a p i g l)) (omega (arith, mirror3 a p i g l))
        | part4 g l ↦ sym (apart q _ i (omega (arith, mirror4 a p i g)) (omega arith))
      ]

  pub repeats-agree : (t : ℕ) → t ≤ 3 → verdict key t ≡ agree
  repeats-agree zero h = same-agree key 0 (mirror-same 2 0 (omega arith))
  repeats-agree (suc zero) h = same-agree key 1 (mirror-same 2 1 (omega arith))
  repeats-agree (suc (suc zero)) h = same-agree key 2 (mirror-same 8 0 (omega arith))
  repeats-agree (suc (suc (suc zero))) h = same-agree key 3 (mirror-same 8 1 (omega arith))
  repeats-agree (suc (suc (suc (suc t)))) h = absurd (omega arith)
