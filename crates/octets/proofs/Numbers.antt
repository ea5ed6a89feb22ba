-- Laws of `number_at` and `octets_of`, for every number of octets: reading gives back what was written, and writing what
-- was read; and where in a list the octets stand.
use Rattle.octets.specs.Prelude.{◌≡◌, refl, sym, ap, ap₂, ◌∙◌, List, [], ◌∷◌, ◌++◌, append-nil, ℕ, zero, suc, ◌+◌, ◌*◌, ◌/◌}
use Rattle.octets.specs.Prelude.{◌-◌, ◌%◌, ◌^◌, ◌≤◌, ◌<◌, add-zero, zero-add, add_assoc, pow-suc, mod-lt, arith, length, get_or}
use Rattle.octets.specs.Prelude.{take, drop, replicate, get_or-drop, drop-cons, sets}
use native.Mathlib.Nat.{suc-add, one-mul, mul-add, mul_assoc, pow-succ'}
use native.Mathlib.Nat.{div-one, div-div-eq-div-mul, div-lt_iff_lt-mul, mod-eq_of_lt, div-eq_of_lt, mod-add-div, pow-le-pow_right}
use lib.Arith.{mod-mul, digits_div, digits_mod}
use lib.Seq.{get_or-append-add}
use Rattle.octets.proofs.Copies.{part-sets}
use borrow.Rule.Slice.PartMut.{put_mid}
use Rattle.std.specs.Int.{byte_at, bytes_low_first}
use Rattle.octets.specs.Numbers.{AreOctets, number_at, octets_of}

pow_pos : (n : ℕ) → 0 < 256 ^ n
pow_pos n = pow-le-pow_right (omega arith) {i = 0} {j = n} (omega arith)

pub length-octets : (n v : ℕ) → length (octets_of n v) ≡ n
unfolding octets_of
length-octets zero v = refl
length-octets (suc n) v = ap suc (length-octets n (v / 256))

-- no octet, and the first octet and the others
pub number-zero : (xs : List ℕ) (i : ℕ) → number_at 0 xs i ≡ 0
unfolding number_at
number-zero xs i = refl

pub octets-zero : (v : ℕ) → octets_of 0 v ≡ []
unfolding octets_of
octets-zero v = refl

pub number-suc : (n : ℕ) (xs : List ℕ) (i : ℕ) → number_at (suc n) xs i ≡ get_or xs i 0 + 256 * number_at n xs (i + 1)
unfolding number_at
number-suc n xs i = refl

pub octets-suc : (n v : ℕ) → octets_of (suc n) v ≡ v % 256 ∷ octets_of n (v / 256)
unfolding octets_of
octets-suc n v = refl

-- two lists with equal octets at two places have equal numbers there
pub number_same : (n : ℕ) (xs ys : List ℕ) (i j : ℕ) → ((k : ℕ) → k < n → get_or xs (i + k) 0 ≡ get_or ys (j + k) 0) → number_at n xs i ≡ number_at n ys j
unfolding number_at
number_same zero xs ys i j h = refl
number_same (suc n) xs ys i j h =
    let e : get_or xs i 0 ≡ get_or ys j 0 = simp add-zero at (h 0 (omega arith)) in
    let further : (k : ℕ) → k < n → get_or xs (i + 1 + k) 0 ≡ get_or ys (j + 1 + k) 0 = λ k l. rw (next i k, next j k) (h (suc k) (omega arith)) in
    ap₂ (λ (a b : ℕ). a + 256 * b) e (number_same n xs ys (i + 1) (j + 1) further)
  where
    next : (i k : ℕ) → i + 1 + k ≡ i + suc k
    next i k = omega arith

-- octets behind other octets, and from a place on
pub number_behind : (n : ℕ) (xs ys : List ℕ) (i : ℕ) → number_at n (xs ++ ys) (length xs + i) ≡ number_at n ys i
number_behind n xs ys i = number_same n (xs ++ ys) ys (length xs + i) i (λ k l. rw add_assoc (get_or-append-add xs ys (i + k) 0))

pub number-drop : (n k : ℕ) (xs : List ℕ) (i : ℕ) → number_at n (drop k xs) i ≡ number_at n xs (k + i)
number-drop n k xs i = number_same n (drop k xs) xs i (k + i) (λ j l. rw add_assoc (get_or-drop k xs (i + j) 0))

-- n + m octets: the first n, then the others
pub number-add : (n m : ℕ) (xs : List ℕ) (i : ℕ) → number_at (n + m) xs i ≡ number_at n xs i + 256 ^ n * number_at m xs (i + n)
number-add zero m xs i = simp (number-zero xs i, zero-add, add-zero, one-mul)
number-add (suc n) m xs i =
    let place : i + 1 + n ≡ i + suc n = omega arith in
    rw (suc-add, number-suc, number-suc, number-add n m xs (i + 1), pow-succ' 256 n, mul-add, mul_assoc, place, add_assoc) refl

pub octets-add : (n m v : ℕ) → octets_of (n + m) v ≡ octets_of n v ++ octets_of m (v / 256 ^ n)
octets-add zero m v = simp (octets-zero v, zero-add, div-one)
octets-add (suc n) m v =
    rw (suc-add, octets-suc, octets-suc, octets-add n m (v / 256), pow-succ' 256 n, div-div-eq-div-mul) refl

-- only the low n octets count
pub octets-mod : (n v : ℕ) → octets_of n (v % 256 ^ n) ≡ octets_of n v
octets-mod zero v = simp octets-zero
octets-mod (suc n) v =
    let l : v % 256 < 256 = mod-lt v (omega arith) in
    let q = v / 256 % 256 ^ n in
    let e : v % 256 ^ suc n ≡ q * 256 + v % 256 = rw pow-suc (mod-mul v (pow_pos n) (omega arith)) in
    octets-suc n (v % 256 ^ suc n)
    ∙ ap₂ (λ (a b : ℕ). a ∷ octets_of n b) (ap (λ (x : ℕ). x % 256) e ∙ digits_mod q l) (ap (λ (x : ℕ). x / 256) e ∙ digits_div q l)
    ∙ ap (λ (t : List ℕ). v % 256 ∷ t) (octets-mod n (v / 256))
    ∙ sym (octets-suc n v)

-- what is written is read back
pub number-octets : (n v : ℕ) (rest : List ℕ) → v < 256 ^ n → number_at n (octets_of n v ++ rest) 0 ≡ v
number-octets zero v rest h =
    let z : v < 1 = h in
    number-zero (octets_of 0 v ++ rest) 0 ∙ omega arith
number-octets (suc n) v rest h =
    let less : v / 256 < 256 ^ n = (div-lt_iff_lt-mul {k = 256} {x = v} {y = 256 ^ n} (omega arith)).1 (rw pow-suc at h) in
    rw octets-suc (number-suc n (v % 256 ∷ octets_of n (v / 256) ++ rest) 0)
    ∙ ap (λ (x : ℕ). v % 256 + 256 * x) (number_behind n (v % 256 ∷ []) (octets_of n (v / 256) ++ rest) 0 ∙ number-octets n (v / 256) rest less)
    ∙ mod-add-div v 256

pub number-octets-alone : (n v : ℕ) → v < 256 ^ n → number_at n (octets_of n v) 0 ≡ v
number-octets-alone n v h = ap (λ (x : List ℕ). number_at n x 0) (sym (append-nil (octets_of n v))) ∙ number-octets n v [] h

-- what is read is written back
pub octets-number : (n : ℕ) (xs : List ℕ) (i : ℕ) → AreOctets xs → i + n ≤ length xs → octets_of n (number_at n xs i) ≡ take n (drop i xs)
octets-number zero xs i o h = octets-zero (number_at 0 xs i)
octets-number (suc n) xs i o h =
    let x = get_or xs i 0 in
    let y = number_at n xs (i + 1) in
    let e : number_at (suc n) xs i ≡ y * 256 + x = number-suc n xs i ∙ omega arith in
    let there : i < length xs = omega arith in
    let next : i + 1 ≡ suc i = omega arith in
    octets-suc n (number_at (suc n) xs i)
    ∙ ap₂ (λ (a b : ℕ). a ∷ octets_of n b) (ap (λ (z : ℕ). z % 256) e ∙ digits_mod y (o i)) (ap (λ (z : ℕ). z / 256) e ∙ digits_div y (o i))
    ∙ ap (λ (t : List ℕ). x ∷ t) (octets-number n xs (i + 1) o (omega arith))
    ∙ rw (drop-cons xs i 0 there, next) refl

-- four octets, written out
pub number-four : (xs : List ℕ) (i : ℕ)
    → number_at 4 xs i ≡ get_or xs i 0 + 256 * get_or xs (i + 1) 0 + 65536 * get_or xs (i + 2) 0 + 16777216 * get_or xs (i + 3) 0
number-four xs i =
    let two : i + 1 + 1 ≡ i + 2 = omega arith in
    let three : i + 2 + 1 ≡ i + 3 = omega arith in
    rw (number-suc 3 xs i, number-suc 2 xs (i + 1), two, number-suc 1 xs (i + 2), three, number-suc 0 xs (i + 3), number-zero) (omega arith)

pub number-eight : (xs : List ℕ) (i : ℕ)
    → number_at 8 xs i ≡ get_or xs i 0 + 256 * get_or xs (i + 1) 0 + 65536 * get_or xs (i + 2) 0 + 16777216 * get_or xs (i + 3) 0
    + 4294967296 * (get_or xs (i + 4) 0 + 256 * get_or xs (i + 5) 0 + 65536 * get_or xs (i + 6) 0 + 16777216 * get_or xs (i + 7) 0)
number-eight xs i =
    let five : i + 4 + 1 ≡ i + 5 = omega arith in
    let six : i + 4 + 2 ≡ i + 6 = omega arith in
    let seven : i + 4 + 3 ≡ i + 7 = omega arith in
    rw (number-add 4 4 xs i, number-four xs i, number-four xs (i + 4), five, six, seven) (omega arith)

-- octets by the library's words
low-octet : (i v : ℕ) → v / 256 ^ i % 256 ≡ byte_at i v
low-octet zero v = ap (λ (x : ℕ). x % 256) (div-one v)
low-octet (suc i) v = refl

pub octets-low-first : (k i v : ℕ) → octets_of k (v / 256 ^ i) ≡ bytes_low_first i k v
octets-low-first zero i v = octets-zero (v / 256 ^ i)
octets-low-first (suc k) i v =
    let next : v / 256 ^ i / 256 ≡ v / 256 ^ suc i = rw pow-suc (div-div-eq-div-mul v (256 ^ i) 256) in
    octets-suc k (v / 256 ^ i)
    ∙ ap₂ (λ (x : ℕ) (xs : List ℕ). x ∷ xs) (low-octet i v) (ap (octets_of k) next ∙ octets-low-first k (suc i) v)

-- a part of a list that was lent for n octets and came back with those of a number
pub stored-octets : (n : ℕ) (l : List ℕ) (i v : ℕ) → i + n ≤ length l → put_mid i (i + n - i) l (bytes_low_first 0 n v) ≡ sets l i (octets_of n v)
stored-octets n l i v h =
    let same : bytes_low_first 0 n v ≡ octets_of n v = sym (ap (octets_of n) (sym (div-one v)) ∙ octets-low-first n 0 v) in
    ap (put_mid i (i + n - i) l) same ∙ part-sets l (octets_of n v) i (i + n - i) (length-octets n v ∙ omega arith) (omega arith)

-- a number below 256 is its lowest octet, and the others are 0
zero-octets : (n : ℕ) → octets_of n 0 ≡ replicate n 0
zero-octets zero = octets-zero 0
zero-octets (suc n) = octets-suc n 0 ∙ ap (λ (t : List ℕ). 0 ∷ t) (zero-octets n)

pub octets-small : (n v : ℕ) → v < 256 → octets_of (suc n) v ≡ v ∷ replicate n 0
octets-small n v h =
    octets-suc n v
    ∙ ap₂ (λ (a b : ℕ). a ∷ octets_of n b) (mod-eq_of_lt h) (div-eq_of_lt h)
    ∙ ap (λ (t : List ℕ). v ∷ t) (zero-octets n)
