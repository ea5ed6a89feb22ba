-- The published hash is linear in the input and in the key: bit, window and term of an XOR are the XORs of the parts'.
use Rattle.octets.specs.Prelude.{◌≡◌, refl, sym, ap, ap₂, ◌∙◌, List, [], ◌∷◌, ℕ, zero, suc, ◌+◌, ◌*◌, ◌/◌, ◌%◌, ◌^◌, ◌-◌, ◌<◌}
use Rattle.octets.specs.Prelude.{arith, length, get_or, bit_xor, xor_zero_r}
use lib.Bits.{xor_shr, xor_mod, xor_block, xor_self}
use Rattle.toeplitz.specs.Xor.{xor_octets}
use Rattle.toeplitz.specs.Hash.{bit_at, bits_at, window_at, when_set, term_at, xor_below, published_hash}
use Rattle.toeplitz.proofs.Sums.{bit-lt, below-same, below-xor}

pub length-xor : (xs ys : List ℕ) → length xs ≡ length ys → length (xor_octets xs ys) ≡ length xs
unfolding xor_octets
length-xor [] ys e = sym e
length-xor (x ∷ xs) [] e = refl
length-xor (x ∷ xs) (y ∷ ys) e = ap suc (length-xor xs ys (omega arith))

pub get_d-xor : (xs ys : List ℕ) (i : ℕ) → get_or (xor_octets xs ys) i 0 ≡ bit_xor (get_or xs i 0) (get_or ys i 0)
unfolding xor_octets
get_d-xor [] ys i = refl
get_d-xor (x ∷ xs) [] i = sym (xor_zero_r (get_or (x ∷ xs) i 0))
get_d-xor (x ∷ xs) (y ∷ ys) zero = refl
get_d-xor (x ∷ xs) (y ∷ ys) (suc i) = get_d-xor xs ys i

pub bit_at_lt : (xs : List ℕ) (i : ℕ) → bit_at xs i < 2
bit_at_lt xs i = bit-lt (get_or xs (i / 8) 0 / 2 ^ (7 - i % 8))

bit_at-xor : (xs ys : List ℕ) (i : ℕ) → bit_at (xor_octets xs ys) i ≡ bit_xor (bit_at xs i) (bit_at ys i)
bit_at-xor xs ys i = rw (get_d-xor, xor_shr) (xor_mod (get_or xs (i / 8) 0 / 2 ^ (7 - i % 8)) (get_or ys (i / 8) 0 / 2 ^ (7 - i % 8)) 1)

bits_at-xor : (xs ys : List ℕ) (i n : ℕ) → bits_at (xor_octets xs ys) i n ≡ bit_xor (bits_at xs i n) (bits_at ys i n)
unfolding bits_at
bits_at-xor xs ys i zero = refl
bits_at-xor xs ys i (suc n) =
    ap₂ (λ (u v : ℕ). u * 2 + v) (bits_at-xor xs ys i n) (bit_at-xor xs ys (i + n))
    ∙ sym (xor_block 1 (bits_at xs i n) (bits_at ys i n) _ _ (bit_at_lt xs (i + n)) (bit_at_lt ys (i + n)))

-- a window counts in the XOR of two bits as often as in both together
when_set-bits : (x y w : ℕ) → x < 2 → y < 2 → when_set (bit_xor x y) w ≡ bit_xor (when_set x w) (when_set y w)
unfolding when_set
when_set-bits zero y w hx hy = refl
when_set-bits (suc zero) zero w hx hy = sym (xor_zero_r w)
when_set-bits (suc zero) (suc zero) w hx hy = sym (xor_self w)
when_set-bits (suc zero) (suc (suc y)) w hx hy = absurd (omega arith)
when_set-bits (suc (suc x)) y w hx hy = absurd (omega arith)

when_set-windows : (b v w : ℕ) → when_set b (bit_xor v w) ≡ bit_xor (when_set b v) (when_set b w)
unfolding when_set
when_set-windows zero v w = refl
when_set-windows (suc b) v w = refl

-- the hash of the XOR of two inputs of one length is the XOR of their hashes
pub linear-in-input : (key a b : List ℕ) → length a ≡ length b
    → published_hash key (xor_octets a b) ≡ bit_xor (published_hash key a) (published_hash key b)
unfolding published_hash term_at
linear-in-input key a b e =
    ap (λ (n : ℕ). xor_below (term_at key (xor_octets a b)) (n * 8)) (length-xor a b e)
    ∙ below-same (term_at key (xor_octets a b)) (λ i. bit_xor (term_at key a i) (term_at key b i)) (length a * 8)
    (λ i h. ap (λ (x : ℕ). when_set x (window_at key i)) (bit_at-xor a b i)
    ∙ when_set-bits (bit_at a i) (bit_at b i) (window_at key i) (bit_at_lt a i) (bit_at_lt b i))
    ∙ below-xor (term_at key a) (term_at key b) (length a * 8)
    ∙ ap (λ (n : ℕ). bit_xor (published_hash key a) (xor_below (term_at key b) (n * 8))) e

-- the hash under the XOR of two keys is the XOR of the hashes under each
pub linear-in-key : (k l input : List ℕ)
    → published_hash (xor_octets k l) input ≡ bit_xor (published_hash k input) (published_hash l input)
unfolding published_hash term_at window_at
linear-in-key k l input =
    below-same (term_at (xor_octets k l) input) (λ i. bit_xor (term_at k input i) (term_at l input i)) (length input * 8)
    (λ i h. ap (when_set (bit_at input i)) (bits_at-xor k l i _)
    ∙ when_set-windows (bit_at input i) (window_at k i) (window_at l i))
    ∙ below-xor (term_at k input) (term_at l input) (length input * 8)
