-- Where an octet or a bit of an input stands in its reverse, and the hash of a reverse.
use Rattle.octets.specs.Prelude.{◌≡◌, sym, ap, ap₂, ◌∙◌, List, ◌++◌, Bool, true, false, ℕ, ◌+◌, ◌*◌, ◌/◌, ◌%◌, ◌^◌, ◌-◌, ◌≤◌, ◌<◌}
use Rattle.octets.specs.Prelude.{dec_lt, arith, length, get_or, take, drop, length-append, length-take, length-drop}
use Rattle.octets.specs.Prelude.{List·get_d-append, get_or-take, get_or-drop, ltb, bit_xor, lt-ltb, le-ltb}
use lib.Seq.{get_or-append-add}
use lib.Bits.{xor_comm}
use Rattle.toeplitz.specs.Hash.{bit_at, window_at, when_set, term_at, xor_below, published_hash}
use Rattle.toeplitz.specs.TwoWay.{size_of, swapped}
use Rattle.toeplitz.proofs.Sums.{below-same, below_split}

-- which of the four parts k stands in, of two of length a and two of length p
pub data Place (a p k : ℕ) : Type 0 where
  part1 : k < a → Place a p k
  part2 : a ≤ k → k < a + a → Place a p k
  part3 : a + a ≤ k → k < a + a + p → Place a p k
  part4 : a + a + p ≤ k → k < a + a + (p + p) → Place a p k

pub place : (a p k : ℕ) → k < size_of a p → Place a p k
place a p k h =
    elim (dec_lt k a) [
      | yes l ↦ part1 l
      | no n ↦ elim (dec_lt k (a + a)) [
        | yes l ↦ part2 (omega arith) l
        | no m ↦ elim (dec_lt k (a + a + p)) [
          | yes l ↦ part3 (omega arith) l
          | no o ↦ part4 (omega arith) h
        ]
      ]
    ]

unfoldable pub pick : Bool → ℕ → ℕ → ℕ
pick true x y = x
pick false x y = y

-- the place that the reverse exchanges with k
unfoldable pub mirror : ℕ → ℕ → ℕ → ℕ
mirror a p k = pick (ltb k a) (k + a) (pick (ltb k (a + a)) (k - a) (pick (ltb k (a + a + p)) (k + p) (k - p)))

module _ (a p k : ℕ) where
  pub mirror1 : k < a → mirror a p k ≡ k + a
  unfolding mirror pick
  mirror1 h = simp (lt-ltb _ _ h)

  pub mirror2 : a ≤ k → k < a + a → mirror a p k ≡ k - a
  unfolding mirror pick
  mirror2 g h = simp (le-ltb _ _ g, lt-ltb _ _ h)

  pub mirror3 : a + a ≤ k → k < a + a + p → mirror a p k ≡ k + p
  unfolding mirror pick
  mirror3 g h =
      let g' : a ≤ k = omega arith in
      simp (le-ltb _ _ g', le-ltb _ _ g, lt-ltb _ _ h)

  pub mirror4 : a + a + p ≤ k → mirror a p k ≡ k - p
  unfolding mirror pick
  mirror4 g =
      let g' : a ≤ k = omega arith in
      let g'' : a + a ≤ k = omega arith in
      simp (le-ltb _ _ g', le-ltb _ _ g'', le-ltb _ _ g)

pub mirror-twice : (a p k : ℕ) → Place a p k → mirror a p (mirror a p k) ≡ k
mirror-twice a p k (part1 h) = rw (mirror1 a p k h) (mirror2 a p (k + a) (omega arith) (omega arith) ∙ omega arith)
mirror-twice a p k (part2 g h) = rw (mirror2 a p k g h) (mirror1 a p (k - a) (omega arith) ∙ omega arith)
mirror-twice a p k (part3 g h) = rw (mirror3 a p k g h) (mirror4 a p (k + p) (omega arith) ∙ omega arith)
mirror-twice a p k (part4 g h) = rw (mirror4 a p k g) (mirror3 a p (k - p) (omega arith) (omega arith) ∙ omega arith)

pub mirror-lt : (a p k : ℕ) → Place a p k → mirror a p k < size_of a p
mirror-lt a p k (part1 h) = omega (arith, mirror1 a p k h)
mirror-lt a p k (part2 g h) = omega (arith, mirror2 a p k g h)
mirror-lt a p k (part3 g h) = omega (arith, mirror3 a p k g h)
mirror-lt a p k (part4 g h) = omega (arith, mirror4 a p k g)

-- eight bits to an octet
mirror-bits : (a p i : ℕ) → Place (a * 8) (p * 8) i
    → (mirror a p (i / 8) ≡ mirror (a * 8) (p * 8) i / 8) × (mirror (a * 8) (p * 8) i % 8 ≡ i % 8)
mirror-bits a p i (part1 h) = rw (mirror1 (a * 8) (p * 8) i h, mirror1 a p (i / 8) (omega arith)) (omega arith, omega arith)
mirror-bits a p i (part2 g h) =
    rw (mirror2 (a * 8) (p * 8) i g h, mirror2 a p (i / 8) (omega arith) (omega arith)) (omega arith, omega arith)
mirror-bits a p i (part3 g h) =
    rw (mirror3 (a * 8) (p * 8) i g h, mirror3 a p (i / 8) (omega arith) (omega arith)) (omega arith, omega arith)
mirror-bits a p i (part4 g h) = rw (mirror4 (a * 8) (p * 8) i g, mirror4 a p (i / 8) (omega arith)) (omega arith, omega arith)

-- a sum over two parts of length n does not change where g has their terms exchanged
swap-parts : (f g : ℕ → ℕ) (n : ℕ) → ((j : ℕ) → j < n → f j ≡ g (n + j)) → ((j : ℕ) → j < n → f (n + j) ≡ g j)
    → xor_below f (n + n) ≡ xor_below g (n + n)
swap-parts f g n to back =
    below_split f n n
    ∙ xor_comm (xor_below f n) (xor_below (λ j. f (n + j)) n)
    ∙ ap₂ bit_xor (below-same _ g n back) (below-same f _ n to)
    ∙ sym (below_split g n n)

-- so a sum by XOR does not change where its terms are mirrored
below-mirror : (f : ℕ → ℕ) (a p : ℕ) → xor_below f (size_of a p) ≡ xor_below (λ i. f (mirror a p i)) (size_of a p)
below-mirror f a p =
    below_split f (a + a) (p + p)
    ∙ ap₂ bit_xor
    (swap-parts f (λ i. f (mirror a p i)) a
    (λ j h. ap f (omega (arith, mirror2 a p (a + j) (omega arith) (omega arith))))
    (λ j h. ap f (omega (arith, mirror1 a p j h))))
    (swap-parts (λ j. f (a + a + j)) (λ j. f (mirror a p (a + a + j))) p
    (λ j h. ap f (omega (arith, mirror4 a p (a + a + (p + j)) (omega arith))))
    (λ j h. ap f (omega (arith, mirror3 a p (a + a + j) (omega arith) (omega arith)))))
    ∙ sym (below_split (λ i. f (mirror a p i)) (a + a) (p + p))

part_length : (xs : List ℕ) (m n : ℕ) → n + m ≤ length xs → length (take m (drop n xs)) ≡ m
part_length xs m n h = simp (length-take, length-drop) (omega arith)

-- octet k of m octets of xs from n on and the octets ys behind them: of the first, or of the others
module _ (xs ys : List ℕ) (m n k : ℕ) (fits : n + m ≤ length xs) where
  in-part : k < m → get_or (take m (drop n xs) ++ ys) k 0 ≡ get_or xs (n + k) 0
  in-part h =
      List·get_d-append (take m (drop n xs)) ys 0 k (rw (part_length xs m n fits) h) ∙ get_or-take m (drop n xs) k 0 h ∙ get_or-drop n xs k 0

  behind-part : m ≤ k → get_or (take m (drop n xs) ++ ys) k 0 ≡ get_or ys (k - m) 0
  behind-part h =
      let s : k ≡ length (take m (drop n xs)) + (k - m) = omega (arith, part_length xs m n fits) in
      ap (λ (i : ℕ). get_or (take m (drop n xs) ++ ys) i 0) s ∙ get_or-append-add (take m (drop n xs)) ys (k - m) 0

module _ (a p : ℕ) (xs : List ℕ) (e : length xs ≡ size_of a p) where
  pub length-swapped : length (swapped a p xs) ≡ length xs
  unfolding swapped
  length-swapped =
      let part = part_length xs in
      simp length-append
      (omega (arith, part a a (omega arith), part a 0 (omega arith), part p (a + a + p) (omega arith), part p (a + a) (omega arith)))

  pub get_d-swapped : (k : ℕ) → Place a p k → get_or (swapped a p xs) k 0 ≡ get_or xs (mirror a p k) 0
  unfolding swapped
  get_d-swapped k (part1 h) = in-part xs _ a a k (omega arith) h ∙ ap (λ (m : ℕ). get_or xs m 0) (omega (arith, mirror1 a p k h))
  get_d-swapped k (part2 g h) =
      behind-part xs _ a a k (omega arith) g ∙ in-part xs _ a 0 (k - a) (omega arith) (omega arith)
      ∙ ap (λ (m : ℕ). get_or xs m 0) (omega (arith, mirror2 a p k g h))
  get_d-swapped k (part3 g h) =
      behind-part xs _ a a k (omega arith) (omega arith) ∙ behind-part xs _ a 0 (k - a) (omega arith) (omega arith)
      ∙ in-part xs _ p (a + a + p) (k - a - a) (omega arith) (omega arith)
      ∙ ap (λ (m : ℕ). get_or xs m 0) (omega (arith, mirror3 a p k g h))
  get_d-swapped k (part4 g h) =
      behind-part xs _ a a k (omega arith) (omega arith) ∙ behind-part xs _ a 0 (k - a) (omega arith) (omega arith)
      ∙ behind-part xs _ p (a + a + p) (k - a - a) (omega arith) (omega arith)
      ∙ get_or-take p (drop (a + a) xs) (k - a - a - p) 0 (omega arith) ∙ get_or-drop (a + a) xs (k - a - a - p) 0
      ∙ ap (λ (m : ℕ). get_or xs m 0) (omega (arith, mirror4 a p k g))

  bit_at-swapped : (i : ℕ) → i < size_of (a * 8) (p * 8) → bit_at (swapped a p xs) i ≡ bit_at xs (mirror (a * 8) (p * 8) i)
  bit_at-swapped i h =
      let m = mirror-bits a p i (place (a * 8) (p * 8) i h) in
      ap₂ (λ (x y : ℕ). x / 2 ^ (7 - y) % 2)
      (get_d-swapped (i / 8) (place a p (i / 8) (omega arith)) ∙ ap (λ (k : ℕ). get_or xs k 0) m.0)
      (sym m.1)

  -- the hash of the reverse: each set bit of the input counts with the window of its mirror
  pub hash-swapped : (key : List ℕ) → published_hash key (swapped a p xs)
      ≡ xor_below (λ i. when_set (bit_at xs i) (window_at key (mirror (a * 8) (p * 8) i))) (size_of (a * 8) (p * 8))
  unfolding published_hash term_at
  hash-swapped key =
      let n : length (swapped a p xs) * 8 ≡ size_of (a * 8) (p * 8) = omega (arith, length-swapped) in
      ap (xor_below (term_at key (swapped a p xs))) n
      ∙ below-same _ _ (size_of (a * 8) (p * 8))
      (λ i h. ap₂ when_set (bit_at-swapped i h) (ap (window_at key) (sym (mirror-twice (a * 8) (p * 8) i (place (a * 8) (p * 8) i h)))))
      ∙ sym (below-mirror (λ i. when_set (bit_at xs i) (window_at key (mirror (a * 8) (p * 8) i))) (a * 8) (p * 8))
