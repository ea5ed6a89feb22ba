-- Windows of a key: from one to the next, and from four octets. The sum of a hash: from one input bit to the next.
use Rattle.octets.specs.Prelude.{◌≡◌, refl, sym, ap, ap₂, ◌∙◌, List, Bool, cond, ℕ, zero, suc, ◌+◌, ◌*◌, ◌/◌, ◌%◌, ◌^◌, ◌-◌, ◌<◌}
use Rattle.octets.specs.Prelude.{add-zero, zero-add, add_assoc, pow-suc, add-one, arith, get_or, eqb, bit_xor, xor_zero_r}
use native.Mathlib.Nat.{add-suc, zero-mul, mul_assoc}
use lib.Pow.{shr-shr, shr_lt}
use lib.Bits.{bit_or, or_step, or_self, or_zero_r, or_block}
use Rattle.octets.specs.Numbers.{AreOctets}
use Rattle.toeplitz.specs.Hash.{bit_at, bits_at, window_at, when_set, term_at, xor_below}
use Rattle.toeplitz.specs.Step.{stepped, four_octets}
use Rattle.toeplitz.specs.Inner.{hash_below}
use Rattle.toeplitz.proofs.Linear.{bit_at_lt}

shift_suc : (a k : ℕ) → a * 2 ^ suc k ≡ a * 2 ^ k * 2
shift_suc a k = ap (λ (x : ℕ). a * x) (pow-suc 2 k) ∙ sym (mul_assoc a (2 ^ k) 2)

bits-more : (xs : List ℕ) (i n : ℕ) → bits_at xs i (suc n) ≡ bits_at xs i n * 2 + bit_at xs (i + n)
unfolding bits_at
bits-more xs i n = refl

bits-lt : (xs : List ℕ) (i n : ℕ) → bits_at xs i n < 2 ^ n
unfolding bits_at
bits-lt xs i zero = omega arith
bits-lt xs i (suc n) = omega (arith, pow-suc 2 n, bits-lt xs i n, bit_at_lt xs (i + n))

bits-append : (xs : List ℕ) (i n m : ℕ) → bits_at xs i (n + m) ≡ bits_at xs i n * 2 ^ m + bits_at xs (i + n) m
unfolding bits_at
bits-append xs i n zero = rw (add-zero n) (omega arith)
bits-append xs i n (suc m) =
    ap (bits_at xs i) (add-suc n m)
    ∙ ap₂ (λ (x y : ℕ). x * 2 + y) (bits-append xs i n m) (ap (bit_at xs) (sym (add_assoc i n m)))
    ∙ omega (arith, shift_suc (bits_at xs i n) m)

-- the window at i + 1 is the step from that at i with the next key bit
pub window-next : (key : List ℕ) (i : ℕ) → window_at key (i + 1) ≡ stepped (window_at key i) (bit_at key (i + 32))
unfolding window_at
window-next key i =
    let next : bit_at key (i + 1 + 31) ≡ bit_at key (i + 32) = ap (bit_at key) (omega arith) in
    omega (arith, bits-append key i 1 31, bits-lt key (i + 1) 31, bits-more key (i + 1) 31, next)

-- the top n bits of an octet, which has k bits below them
octet-top : (xs : List ℕ) (a n k : ℕ) → n + k ≡ 8 → get_or xs a 0 < 256 → bits_at xs (a * 8) n ≡ get_or xs a 0 / 2 ^ k
unfolding bits_at
octet-top xs a zero k e h =
    let k8 : k ≡ 8 = omega arith in
    rw k8 (omega arith)
octet-top xs a (suc n) k e h =
    let div : (a * 8 + n) / 8 ≡ a = omega arith in
    let rem : 7 - (a * 8 + n) % 8 ≡ k = omega arith in
    rw (octet-top xs a n (k + 1) (omega arith) h, ← shr-shr (get_or xs a 0) k 1, div, rem) (omega arith)

octet : (xs : List ℕ) (a : ℕ) → get_or xs a 0 < 256 → bits_at xs (a * 8) 8 ≡ get_or xs a 0
octet xs a h = octet-top xs a 8 0 refl h ∙ omega arith

-- the window at an octet's top bit is four octets
pub window-octets : (xs : List ℕ) (a : ℕ) → AreOctets xs
    → window_at xs (a * 8) ≡ four_octets xs a
unfolding window_at
window-octets xs a h =
    let at : (n : ℕ) → bits_at xs (a * 8 + n * 8) 8 ≡ get_or xs (a + n) 0 = λ n.
    ap (λ (i : ℕ). bits_at xs i 8) (omega arith) ∙ octet xs (a + n) (h (a + n)) in
    omega (arith, bits-append xs (a * 8) 24 8, bits-append xs (a * 8) 16 8, bits-append xs (a * 8) 8 8, octet xs a (h a), at 1, at 2, at 3)

-- an OR with the low k digits of a number whose lowest is missing adds this one alone: the others stand there already
or-lowest : (h t k : ℕ) → t < 2 ^ k → bit_or (h * 2 ^ k + t / 2 * 2) t ≡ h * 2 ^ k + t
or-lowest h t k f =
    let half : t / 2 * 2 / 2 ≡ t / 2 = omega arith in
    let even : t / 2 * 2 % 2 ≡ 0 = omega arith in
    let low : bit_or (t / 2 * 2) t ≡ t = or_step (t / 2 * 2) t ∙ rw (half, even, or_self (t / 2)) (omega arith) in
    rw (zero-mul, zero-add) at (or_block k h 0 (t / 2 * 2) t (omega arith) f)
    ∙ ap₂ (λ (x y : ℕ). x * 2 ^ k + y) (or_zero_r h) low

-- the octet of the next key bit, down to this bit, drawn into the window: the step, since the window has the bits before it in the same places
pub window-drawn : (key : List ℕ) (i : ℕ) → get_or key (i / 8 + 4) 0 < 256
    → bit_or (window_at key i % 2147483648 * 2) (get_or key (i / 8 + 4) 0 / 2 ^ (7 - i % 8)) ≡ window_at key (i + 1)
unfolding window_at
window-drawn key i o =
    let m = i % 8 in
    let a = i / 8 + 4 in
    let t = get_or key a 0 / 2 ^ (7 - m) in
    let h = bits_at key (i + 1) (31 - m) in
    let sizes : 31 - m + suc m ≡ 32 = omega arith in
    let eight : suc m + (7 - m) ≡ 8 = omega arith in
    let place : i + 1 + (31 - m) ≡ a * 8 = omega arith in
    let low : bits_at key (i + 1 + (31 - m)) (suc m) ≡ t = rw place (octet-top key a (suc m) (7 - m) eight o) in
    let next : window_at key (i + 1) ≡ h * 2 ^ suc m + t =
    ap (bits_at key (i + 1)) (sym sizes) ∙ bits-append key (i + 1) (31 - m) (suc m) ∙ ap (λ (x : ℕ). h * 2 ^ suc m + x) low in
    let fits : t < 2 ^ suc m = shr_lt (suc m) (7 - m) (rw eight o) in
    let shifted : window_at key i % 2147483648 * 2 ≡ h * 2 ^ suc m + t / 2 * 2 =
    omega (arith, next, window-next key i, bit_at_lt key (i + 32), shift_suc h m) in
    ap (λ (x : ℕ). bit_or x t) shifted ∙ or-lowest h t (suc m) fits ∙ sym next

-- a bit is 0 or 1, so what it adds to a sum is told by the test for 1
when-set : (s b w : ℕ) → b < 2 → cond (eqb b 1) (bit_xor s w) s ≡ bit_xor s (when_set b w)
unfolding when_set
when-set s zero w h = sym (xor_zero_r s)
when-set s (suc zero) w h = refl
when-set s (suc (suc b)) w h = absurd (omega arith)

-- one input bit more
pub sum-next : (key input : List ℕ) (i s w s' : ℕ) (b : Bool) → s ≡ hash_below key input i → b ≡ eqb (bit_at input i) 1
    → w ≡ window_at key i → s' ≡ cond b (bit_xor s w) s → s' ≡ hash_below key input (i + 1)
unfolding xor_below term_at
sum-next key input i s w s' b r f e g =
    let bit = bit_at input i in
    rw add-one (g ∙ ap (λ (t : Bool). cond t (bit_xor s w) s) f ∙ when-set s bit w (bit_at_lt input i)
    ∙ ap₂ (λ (x y : ℕ). bit_xor x (when_set bit y)) r e)
