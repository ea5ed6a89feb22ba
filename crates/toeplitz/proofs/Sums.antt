-- XOR is associative, and what follows for the XOR of many numbers.
use Rattle.octets.specs.Prelude.{◌≡◌, refl, sym, ap, ap₂, ◌∙◌, ℕ, zero, suc, ◌+◌, ◌*◌, ◌/◌, ◌%◌, ◌<◌, add-zero, ℕ_discrete}
use Rattle.octets.specs.Prelude.{arith, bit_xor, xor_zero_r}
use native.Mathlib.Nat.{div-add-mod', add-suc}
use lib.Arith.{bin_ind}
use lib.Bits.{xor_shr, xor_mod, xor_comm}
use Rattle.toeplitz.specs.Hash.{xor_below}

-- the digits above the lowest, and the lowest
xor-parts : (a b : ℕ) → bit_xor a b ≡ bit_xor (a / 2) (b / 2) * 2 + bit_xor (a % 2) (b % 2)
xor-parts a b = sym (div-add-mod' (bit_xor a b) 2) ∙ ap₂ (λ (x y : ℕ). x * 2 + y) (xor_shr a b 1) (xor_mod a b 1)

assoc-bit : (x y z : ℕ) → x < 2 → y < 2 → z < 2 → bit_xor (bit_xor x y) z ≡ bit_xor x (bit_xor y z)
assoc-bit zero y z hx hy hz = refl
assoc-bit (suc zero) zero z hx hy hz = refl
assoc-bit (suc zero) (suc zero) zero hx hy hz = refl
assoc-bit (suc zero) (suc zero) (suc zero) hx hy hz = refl
assoc-bit (suc zero) (suc zero) (suc (suc z)) hx hy hz = absurd (omega arith)
assoc-bit (suc zero) (suc (suc y)) z hx hy hz = absurd (omega arith)
assoc-bit (suc (suc x)) y z hx hy hz = absurd (omega arith)

pub bit-lt : (n : ℕ) → n % 2 < 2
bit-lt n = omega arith

pub xor_assoc : (a b c : ℕ) → bit_xor (bit_xor a b) c ≡ bit_xor a (bit_xor b c)
xor_assoc =
    bin_ind (λ (n : ℕ). (b c : ℕ) → bit_xor (bit_xor n b) c ≡ bit_xor n (bit_xor b c)) (λ b c. refl)
    (λ n ih b c.
    xor-parts (bit_xor n b) c
    ∙ ap₂ (λ (x y : ℕ). bit_xor x (c / 2) * 2 + bit_xor y (c % 2)) (xor_shr n b 1) (xor_mod n b 1)
    ∙ ap₂ (λ (x y : ℕ). x * 2 + y) (ih (b / 2) (c / 2)) (assoc-bit (n % 2) (b % 2) (c % 2) (bit-lt n) (bit-lt b) (bit-lt c))
    ∙ ap₂ (λ (x y : ℕ). bit_xor (n / 2) x * 2 + bit_xor (n % 2) y) (sym (xor_shr b c 1)) (sym (xor_mod b c 1))
    ∙ sym (xor-parts n (bit_xor b c)))

pub xor-swap : (a b c d : ℕ) → bit_xor (bit_xor a b) (bit_xor c d) ≡ bit_xor (bit_xor a c) (bit_xor b d)
xor-swap a b c d =
    xor_assoc a b (bit_xor c d)
    ∙ ap (bit_xor a) (sym (xor_assoc b c d) ∙ ap (λ (x : ℕ). bit_xor x d) (xor_comm b c) ∙ xor_assoc c b d)
    ∙ sym (xor_assoc a c (bit_xor b d))

-- sums of equal terms are equal
pub below-same : (f g : ℕ → ℕ) (n : ℕ) → ((i : ℕ) → i < n → f i ≡ g i) → xor_below f n ≡ xor_below g n
unfolding xor_below
below-same f g zero h = refl
below-same f g (suc n) h = ap₂ bit_xor (below-same f g n (λ i l. h i (omega arith))) (h n (omega arith))

-- a sum of XORs is the XOR of the sums
pub below-xor : (f g : ℕ → ℕ) (n : ℕ) → xor_below (λ i. bit_xor (f i) (g i)) n ≡ bit_xor (xor_below f n) (xor_below g n)
unfolding xor_below
below-xor f g zero = refl
below-xor f g (suc n) =
    ap (λ (x : ℕ). bit_xor x (bit_xor (f n) (g n))) (below-xor f g n)
    ∙ xor-swap (xor_below f n) (xor_below g n) (f n) (g n)

-- a sum falls into the first n terms and the next m
pub below_split : (f : ℕ → ℕ) (n m : ℕ) → xor_below f (n + m) ≡ bit_xor (xor_below f n) (xor_below (λ j. f (n + j)) m)
unfolding xor_below
below_split f n zero = ap (xor_below f) (add-zero n) ∙ sym (xor_zero_r (xor_below f n))
below_split f n (suc m) =
    ap (xor_below f) (add-suc n m) ∙ ap (λ (x : ℕ). bit_xor x (f (n + m))) (below_split f n m)
    ∙ xor_assoc (xor_below f n) (xor_below (λ j. f (n + j)) m) (f (n + m))

-- a sum whose terms are all 0 is 0, and one with a single other term is that term
below_none : (f : ℕ → ℕ) (n : ℕ) → ((i : ℕ) → i < n → f i ≡ 0) → xor_below f n ≡ 0
unfolding xor_below
below_none f zero h = refl
below_none f (suc n) h = ap₂ bit_xor (below_none f n (λ i l. h i (omega arith))) (h n (omega arith))

pub below_one : (f : ℕ → ℕ) (n b : ℕ) → b < n → ((i : ℕ) → i < n → (i ≡ b → ⊥) → f i ≡ 0) → xor_below f n ≡ f b
unfolding xor_below
below_one f zero b l h = absurd (omega arith)
below_one f (suc n) b l h =
    elim (ℕ_discrete b n) [
      | yes e ↦ ap (λ (x : ℕ). bit_xor x (f n)) (below_none f n (λ i m. h i (omega arith) (λ q. omega arith))) ∙ ap f (sym e)
      | no d ↦
          ap₂ bit_xor (below_one f n b (omega arith) (λ i m. h i (omega arith))) (h n (omega arith) (λ q. d (sym q)))
          ∙ xor_zero_r (f b)
    ]
