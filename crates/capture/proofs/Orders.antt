-- Laws of numbers in either order of octets.
use Rattle.octets.specs.Prelude.{◌≡◌, refl, ap₂, List, ◌++◌, ℕ, zero, suc, ◌+◌, ◌*◌, ◌^◌, ◌≤◌, ◌<◌, add-zero, add_assoc, arith}
use Rattle.octets.specs.Prelude.{length, get_or, take, drop, List·get_d-append, get_or-take, get_or-drop}
use Rattle.octets.proofs.Numbers.{number_same}
use Rattle.capture.specs.Header.{big_endian_at, number_in}
use Rattle.capture.specs.declared.Order.{Order}
use Rattle.capture.specs.declared.Order.TheVariants.{LowFirst, HighFirst}

-- two lists with equal octets at two places have equal numbers there
pub big-same : (n : ℕ) (xs ys : List ℕ) (i j : ℕ) → ((k : ℕ) → k < n → get_or xs (i + k) 0 ≡ get_or ys (j + k) 0)
    → big_endian_at n xs i ≡ big_endian_at n ys j
unfolding big_endian_at
big-same zero xs ys i j h = refl
big-same (suc n) xs ys i j h =
    let e : get_or xs i 0 ≡ get_or ys j 0 = simp add-zero at (h 0 (omega arith)) in
    let further : (k : ℕ) → k < n → get_or xs (i + 1 + k) 0 ≡ get_or ys (j + 1 + k) 0 = λ k l. rw (next i k, next j k) (h (suc k) (omega arith)) in
    ap₂ (λ (a b : ℕ). a * 256 ^ n + b) e (big-same n xs ys (i + 1) (j + 1) further)
  where
    next : (i k : ℕ) → i + 1 + k ≡ i + suc k
    next i k = omega arith

pub number-in-same : (o : Order) (n : ℕ) (xs ys : List ℕ) (i j : ℕ) → ((k : ℕ) → k < n → get_or xs (i + k) 0 ≡ get_or ys (j + k) 0)
    → number_in o n xs i ≡ number_in o n ys j
number-in-same LowFirst n xs ys i j h = number_same n xs ys i j h
number-in-same HighFirst n xs ys i j h = big-same n xs ys i j h

-- a number in a list from a place on, and in the front of a list
pub number-in-drop : (o : Order) (n k : ℕ) (xs : List ℕ) (i : ℕ) → number_in o n (drop k xs) i ≡ number_in o n xs (k + i)
number-in-drop o n k xs i = number-in-same o n (drop k xs) xs i (k + i) (λ j l. rw add_assoc (get_or-drop k xs (i + j) 0))

pub number-in-take : (o : Order) (n k : ℕ) (xs : List ℕ) (i : ℕ) → i + n ≤ k → number_in o n (take k xs) i ≡ number_in o n xs i
number-in-take o n k xs i h = number-in-same o n (take k xs) xs i i (λ j l. get_or-take k xs (i + j) 0 (omega arith))

pub number-in-append : (o : Order) (n : ℕ) (xs ys : List ℕ) (i : ℕ) → i + n ≤ length xs → number_in o n (xs ++ ys) i ≡ number_in o n xs i
number-in-append o n xs ys i h = number-in-same o n (xs ++ ys) xs i i (λ j l. List·get_d-append xs ys 0 (i + j) (omega arith))
