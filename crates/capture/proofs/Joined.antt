-- Octets joined to one number as `Order::number_at` does, each below those before it.
use Rattle.std.specs.Prelude.{fold, reverse}
use Rattle.octets.specs.Prelude.{◌≡◌, refl, sym, ap, ◌∙◌, List, [], ◌∷◌, ◌++◌, ℕ, suc, ◌+◌, ◌*◌, ◌%◌, ◌^◌, ◌≤◌, ◌<◌}
use Rattle.octets.specs.Prelude.{add-zero, zero-add, add_assoc, pow-suc, arith}
use Rattle.octets.specs.Prelude.{length, get_or, take, drop, length-take-le, length-drop, get_or-take, get_or-drop}
use Rattle.std.specs.Int.Bits.{bit_or}
use Rattle.std.proofs.lemmas.List.Sums.{fold-append}
use Rattle.std.proofs.lemmas.Grind.{reverse_onto}
use Rattle.std.proofs.lemmas.Nat.{or_shifted}
use native.Mathlib.Nat.{pow-le-pow_right, mod-eq_of_lt}
use Rattle.octets.specs.Numbers.{number_at}
use Rattle.octets.proofs.Numbers.{number-zero, number-suc, number_same}
use Rattle.capture.specs.Header.{big_endian_at, number_in}
use Rattle.capture.specs.declared.Order.{Order}
use Rattle.capture.specs.declared.Order.TheVariants.{LowFirst, HighFirst}
use Rattle.capture.proofs.Orders.{big-same, number-in-drop, number-in-take}

-- what is below 256 at each index
abbrev Octets : List ℕ → Type 0
Octets xs = (i : ℕ) → i < length xs → get_or xs i 0 < 256

-- an octet below the number of those before it
abbrev pub joined : ℕ → ℕ → ℕ
joined n x = bit_or (n * 256 % 4294967296) x

few : (m : ℕ) → m ≤ 3 → 256 ^ m ≤ 16777216
few m h = pow-le-pow_right {n = 256} (omega arith) {i = m} {j = 3} h

joined-is : (n x m : ℕ) → n < 256 ^ m → m ≤ 3 → x < 256 → joined n x ≡ n * 256 + x
joined-is n x m small h l =
    let whole : n * 256 % 4294967296 ≡ n * 256 = mod-eq_of_lt (omega (arith, few m h)) in
    rw whole (or_shifted n 8 x l)

regroup : (a x p : ℕ) → (a * 256 + x) * p ≡ a * (p * 256) + x * p
regroup a x p = grind arith

-- the first octet the highest
one_more : (x : ℕ) (xs : List ℕ) (k : ℕ) → get_or (x ∷ xs) (1 + k) 0 ≡ get_or xs (0 + k) 0
one_more x xs k =
    let next : 1 + k ≡ suc k = omega arith in
    rw (next, zero-add) refl

pub joined-high : (xs : List ℕ) (a m : ℕ) → Octets xs → a < 256 ^ m → m + length xs ≤ 4
    → fold joined a xs ≡ a * 256 ^ length xs + big_endian_at (length xs) xs 0
unfolding big_endian_at
joined-high [] a m o small h = omega arith
joined-high (x ∷ xs) a m o small h =
    let l : x < 256 = o 0 (omega arith) in
    let next : a * 256 + x < 256 ^ suc m = rw pow-suc (omega arith) in
    let further = joined-high xs (a * 256 + x) (suc m) (λ i k. o (suc i) (omega arith)) next (omega arith) in
    let behind = big-same (length xs) (x ∷ xs) xs 1 0 (λ k _. one_more x xs k) in
    rw (joined-is a x m small (omega arith) l, further, behind, pow-suc, regroup) (add_assoc _ _ _)

-- the first octet the lowest
number-low : (xs : List ℕ) → Octets xs → number_at (length xs) xs 0 < 256 ^ length xs
number-low [] o = rw (number-zero [] 0) (omega arith)
number-low (x ∷ xs) o =
    let l : x < 256 = o 0 (omega arith) in
    let others = number-low xs (λ i k. o (suc i) (omega arith)) in
    rw (number-suc (length xs) (x ∷ xs) 0, number_same (length xs) (x ∷ xs) xs 1 0 (λ k _. one_more x xs k), pow-suc) (omega arith)

pub joined-low : (xs : List ℕ) → Octets xs → length xs ≤ 4 → fold joined 0 (reverse xs) ≡ number_at (length xs) xs 0
joined-low [] o h = sym (number-zero [] 0)
joined-low (x ∷ xs) o h =
    let l : x < 256 = o 0 (omega arith) in
    let further = joined-low xs (λ i k. o (suc i) (omega arith)) (omega arith) in
    let small = number-low xs (λ i k. o (suc i) (omega arith)) in
    let last : fold joined 0 (reverse xs ++ x ∷ []) ≡ joined (fold joined 0 (reverse xs)) x = fold-append joined 0 (reverse xs) (x ∷ []) in
    let is = joined-is _ x (length xs) small (omega arith) l in
    let behind = number_same (length xs) (x ∷ xs) xs 1 0 (λ k _. one_more x xs k) in
    rw (reverse_onto xs x [], last, further, is, number-suc (length xs) (x ∷ xs) 0, behind) (omega arith)

-- the n octets from a place on
module _ (s : List ℕ) (at n : ℕ) (octets : (i : ℕ) → get_or s i 0 < 256) (inside : at + n ≤ length s) (few : n ≤ 4) where
  abbrev part : List ℕ
  part = take n (drop at s)

  size : length part ≡ n
  size = length-take-le n (drop at s) (omega (arith, length-drop at s))

  each : Octets part
  each i h = rw (get_or-take n (drop at s) i 0 (omega (arith, size)), get_or-drop at s i 0) (octets (at + i))

  there : (o : Order) → number_in o n part 0 ≡ number_in o n s at
  there o = number-in-take o n n (drop at s) 0 (omega arith) ∙ number-in-drop o n at s 0 ∙ ap (number_in o n s) (add-zero at)

  pub high-joined : fold joined 0 part ≡ number_in HighFirst n s at
  high-joined = joined-high part 0 0 each (omega arith) (omega (arith, size)) ∙ rw size (omega (arith, there HighFirst))

  pub low-joined : fold joined 0 (reverse part) ≡ number_in LowFirst n s at
  low-joined = joined-low part each (omega (arith, size)) ∙ ap (λ (k : ℕ). number_at k part 0) size ∙ there LowFirst
