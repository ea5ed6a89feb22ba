-- Why single bits are enough for the two-way question: a bit tells an input from its reverse exactly where
-- the window at the bit is not that at its mirror, and where all are equal so are all hashes.
use Rattle.octets.specs.Prelude.{◌≡◌, sym, ap, ap₂, ◌∙◌, List, ◌↔◌, true, false, not, ℕ, ◌*◌, ◌<◌, arith, length, eqb, eq-eqb}
use Rattle.octets.specs.Prelude.{ne_eqb, eqb-true, not-false}
use Rattle.toeplitz.specs.Hash.{bit_at, window_at, when_set, term_at, xor_below, published_hash}
use Rattle.toeplitz.specs.TwoWay.{size_of, input_size, IsInput, address_size, port_size, swapped, EqualHashes, one_bit}
use Rattle.toeplitz.specs.TwoWay.{tells_apart, agree, lowest, verdict}
use Rattle.toeplitz.proofs.Sums.{below-same}
use Rattle.toeplitz.proofs.Mirror.{mirror, hash-swapped}
use Rattle.toeplitz.proofs.OneBit.{length-one, one-is-input, sum_one, hash-one}
use Rattle.toeplitz.proofs.Lowest.{agree-exactly, lowest-same}

module _ (key : List ℕ) (a p : ℕ) where
  -- the window at the mirror of bit i
  abbrev pub mirrored : ℕ → ℕ
  mirrored i = window_at key (mirror (a * 8) (p * 8) i)

  -- it is the hash of the reverse of a single-bit input
  hash-one-swapped : (b : ℕ) → b < size_of a p * 8 → published_hash key (swapped a p (one_bit (size_of a p) b)) ≡ mirrored b
  hash-one-swapped b h =
      let n : size_of (a * 8) (p * 8) ≡ size_of a p * 8 = omega arith in
      hash-swapped a p (one_bit (size_of a p) b) (length-one (size_of a p) b h) key
      ∙ ap (xor_below (λ i. when_set (bit_at (one_bit (size_of a p) b) i) (mirrored i))) n
      ∙ sum_one mirrored (size_of a p) b h

  -- where each window is that at its mirror, every input has the hash of its reverse
  windows-agree : ((i : ℕ) → i < size_of a p * 8 → window_at key i ≡ mirrored i)
      → (xs : List ℕ) → length xs ≡ size_of a p → published_hash key xs ≡ published_hash key (swapped a p xs)
  unfolding published_hash term_at
  windows-agree w xs e =
      let n : length xs * 8 ≡ size_of (a * 8) (p * 8) = omega arith in
      ap (xor_below (term_at key xs)) n
      ∙ below-same _ _ (size_of (a * 8) (p * 8)) (λ i h. ap (when_set (bit_at xs i)) (w i (omega arith)))
      ∙ sym (hash-swapped a p xs e key)

module _ (key : List ℕ) (t : ℕ) where
  -- the window at the mirror of bit i of an input of type t
  abbrev pub mirror_window : ℕ → ℕ
  mirror_window i = mirrored key (address_size t) (port_size t) i

  -- the test of the definition is one of two windows
  pub tells-windows : (b : ℕ) → b < input_size t * 8 → tells_apart key t b ≡ not (eqb (window_at key b) (mirror_window b))
  unfolding tells_apart
  tells-windows b h =
      ap₂ (λ (x y : ℕ). not (eqb x y)) (hash-one key (input_size t) b h) (hash-one-swapped key (address_size t) (port_size t) b h)

  -- a bit's window is that at its mirror, or not
  abbrev pub SameWindow : ℕ → Type 0
  SameWindow b = window_at key b ≡ mirror_window b

  pub test-same : (b : ℕ) → b < input_size t * 8 → SameWindow b → tells_apart key t b ≡ false
  test-same b h e = tells-windows b h ∙ ap not (eq-eqb _ _ e)

  pub test-other : (b : ℕ) → b < input_size t * 8 → (SameWindow b → ⊥) → tells_apart key t b ≡ true
  test-other b h n = tells-windows b h ∙ ap not (ne_eqb _ _ n)

  -- where all are the same, the directions agree
  pub same-agree : ((b : ℕ) → b < input_size t * 8 → SameWindow b) → verdict key t ≡ agree
  unfolding verdict
  same-agree s = (agree-exactly (tells_apart key t) (input_size t * 8)).1 (λ b h. test-same b h (s b h))

  -- the answer by windows alone, with no hash computed
  pub verdict-windows : verdict key t ≡ lowest (λ b. not (eqb (window_at key b) (mirror_window b))) (input_size t * 8)
  unfolding verdict
  verdict-windows = lowest-same (tells_apart key t) _ (input_size t * 8) tells-windows

  -- the verdict is `agree` exactly where every input of the type has the hash of its reverse
  pub verdict-agree : (verdict key t ≡ agree)
      ↔ ((xs : List ℕ) → IsInput t xs → EqualHashes key t xs)
  unfolding verdict tells_apart
  verdict-agree = (
    λ e xs q. windows-agree key (address_size t) (port_size t)
        (λ i h. eqb-true _ _ (not-false _ (sym (tells-windows i h)
        ∙ (agree-exactly (tells_apart key t) (input_size t * 8)).0 e i h))) xs q.size,
    λ w. (agree-exactly (tells_apart key t) (input_size t * 8)).1
        (λ k h. ap not (eq-eqb _ _ (w (one_bit (input_size t) k) (one-is-input t k h)))),
  )
