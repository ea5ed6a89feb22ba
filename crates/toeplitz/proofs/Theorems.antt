-- What readers ask of the calls, proved of the definitions that their contracts cite: demand 3 whole, the step of the window, the order of
-- the refusals, and how to choose a key under which both directions meet.
use Rattle.octets.specs.Prelude.{◌≡◌, refl, sym, ap, ap₂, ◌∙◌, List, ◌↔◌, ◌⊎◌, inl, inr, not, cond, ℕ, zero, suc, ◌+◌, ◌*◌, ◌≤◌, ◌<◌, add-one, arith}
use Rattle.octets.specs.Prelude.{length, get_or, bit_xor, eqb, lit≤, eq-eqb, ne_eqb, eqb-true, eqb-false, not-true, not-false}
use lib.Bits.{xor_lt}
use Rattle.octets.specs.Numbers.{AreOctets}
use Rattle.octets.specs.Outcome.{Outcome, value, refused, value_or}
use Rattle.toeplitz.specs.Refusals.{input_too_long, key_length_wrong, type_unknown}
use Rattle.toeplitz.specs.Hash.{key_length, max_input, bit_at, window_at, when_set, term_at, xor_below, published_hash, hash_outcome, hash_outcome_of}
use Rattle.toeplitz.specs.Step.{stepped, window_after}
use Rattle.toeplitz.specs.Xor.{xor_octets}
use Rattle.toeplitz.specs.TwoWay.{last_type, input_size, IsInput, reverse_of, single_bit, EqualHashes, tells_apart}
use Rattle.toeplitz.specs.TwoWay.{Verdict, agree, differ_at, verdict, two_way_outcome, two_way_outcome_of, RepeatsEveryTwo}
use Rattle.toeplitz.specs.declared.HashRefusal.{HashRefusal}
use Rattle.toeplitz.specs.declared.HashRefusal.TheVariants.{KeyLength, InputLength}
use Rattle.toeplitz.specs.declared.TwoWayRefusal.{TwoWayRefusal}
use Rattle.toeplitz.specs.declared.TwoWayRefusal.TheVariants.{KeyLength as KeyLength₂, UnknownType}
use Rattle.std.specs.Prelude.{Option, None, Some, Result, Ok, Err}
use Rattle.toeplitz.proofs.Linear.{length-xor, get_d-xor, linear-in-input, linear-in-key}
use Rattle.toeplitz.proofs.Lowest.{differ-exactly}
use Rattle.toeplitz.proofs.OneBit.{one-is-input}
use Rattle.toeplitz.proofs.Outcomes.{value-exactly, key-refused-exactly, limit-refused-exactly}
use Rattle.toeplitz.proofs.Period.{repeats-agree}
use Rattle.toeplitz.proofs.Reverses.{reverse-is-input}
use Rattle.toeplitz.proofs.Sums.{below-same}
use Rattle.toeplitz.proofs.TwoWays.{verdict-agree}
use Rattle.toeplitz.proofs.Windows.{window-next, window-octets}

-- ---- the hash call

module _ (key input : List ℕ) where
  -- it answers a value exactly where 8 and 7 let key and input through, and the value is the published hash
  pub hash-is-published : (h : ℕ)
      → (hash_outcome key input ≡ value h) ↔ ((length key ≡ key_length) × (length input ≤ max_input) × (published_hash key input ≡ h))
  hash-is-published h = value-exactly (published_hash key input) input_too_long key (length input) max_input h

  -- 8 exactly where the key is not 40 octets
  pub hash-refuses-key : (hash_outcome key input ≡ refused key_length_wrong) ↔ (length key ≡ key_length → ⊥)
  hash-refuses-key = key-refused-exactly (published_hash key input) input_too_long key (length input) max_input (λ q. omega arith)

  -- 7 exactly where the key is, and the input is above 36
  pub hash-refuses-input : (hash_outcome key input ≡ refused input_too_long) ↔ ((length key ≡ key_length) × (max_input < length input))
  hash-refuses-input = limit-refused-exactly (published_hash key input) input_too_long key (length input) max_input (λ q. omega arith)

  -- so a caller that has another number for a refusal gets the published hash wherever neither refusal is met
  pub hash-or-published : (other : ℕ) → length key ≡ key_length → length input ≤ max_input
      → value_or other (hash_outcome key input) ≡ published_hash key input
  hash-or-published other e h = ap (value_or other) ((hash-is-published (published_hash key input)).1 (e, h, refl))

-- the reading of an answer keeps answers apart, so the contract leaves no choice
hash-answer : Outcome ℕ → Result ℕ HashRefusal
hash-answer (value h) = Ok h
hash-answer (refused n) = cond (eqb n key_length_wrong) (Err KeyLength) (Err InputLength)

hash-answer-back : (r : Result ℕ HashRefusal) → hash-answer (hash_outcome_of r) ≡ r
unfolding hash-answer
hash-answer-back (Ok h) = refl
hash-answer-back (Err KeyLength) = refl
hash-answer-back (Err InputLength) = refl

pub hash-answer-determined : (r s : Result ℕ HashRefusal) → hash_outcome_of r ≡ hash_outcome_of s → r ≡ s
hash-answer-determined r s e = sym (hash-answer-back r) ∙ ap hash-answer e ∙ hash-answer-back s

-- linear in the input: the answer for the XOR of two inputs of one length is the XOR of the answers
pub hash-linear-in-input : (key a b : List ℕ) (x y : ℕ) → length a ≡ length b
    → hash_outcome key a ≡ value x → hash_outcome key b ≡ value y → hash_outcome key (xor_octets a b) ≡ value (bit_xor x y)
hash-linear-in-input key a b x y e p q =
    let f = (hash-is-published key a x).0 p in
    let g = (hash-is-published key b y).0 q in
    (hash-is-published key (xor_octets a b) (bit_xor x y)).1
    (f.0, rw (length-xor a b e) f.1, linear-in-input key a b e ∙ ap₂ bit_xor f.2 g.2)

-- linear in the key: the answer under the XOR of two keys is the XOR of the answers
pub hash-linear-in-key : (k l input : List ℕ) (x y : ℕ)
    → hash_outcome k input ≡ value x → hash_outcome l input ≡ value y → hash_outcome (xor_octets k l) input ≡ value (bit_xor x y)
hash-linear-in-key k l input x y p q =
    let f = (hash-is-published k input x).0 p in
    let g = (hash-is-published l input y).0 q in
    (hash-is-published (xor_octets k l) input (bit_xor x y)).1
    (length-xor k l (f.0 ∙ sym g.0) ∙ f.0, f.1, linear-in-key k l input ∙ ap₂ bit_xor f.2 g.2)

-- (the XOR of octets is octets)
pub xor-octets : (a b : List ℕ) → AreOctets a → AreOctets b → AreOctets (xor_octets a b)
xor-octets a b f g i = rw (get_d-xor a b i) (xor_lt 8 (get_or a i 0) (get_or b i 0) (f i) (g i))

-- ---- the step of the window

-- it takes the window at i to that at i + 1, for each i below 288: so far the bit drawn in is one of the key's 320
pub window-step : (key : List ℕ) → length key ≡ key_length → (i : ℕ) → i < 288
    → (i + 32 < length key * 8) × (stepped (window_at key i) (bit_at key (i + 32)) ≡ window_at key (i + 1))
window-step key e i h = (omega arith, sym (window-next key i))

-- so the window at each bit is that of the first four octets after as many steps
pub window-after-steps : (key : List ℕ) → AreOctets key → (i : ℕ) → window_after key i ≡ window_at key i
unfolding window_after
window-after-steps key o zero = sym (window-octets key 0 o)
window-after-steps key o (suc i) =
    ap (λ (w : ℕ). stepped w (bit_at key (i + 32))) (window-after-steps key o i) ∙ sym (window-next key i) ∙ rw add-one refl

-- and the published hash is the XOR of the windows that the steps give, at every set input bit
pub hash-by-steps : (key input : List ℕ) → AreOctets key
    → published_hash key input ≡ xor_below (λ i. when_set (bit_at input i) (window_after key i)) (length input * 8)
unfolding published_hash term_at
hash-by-steps key input o =
    below-same (term_at key input) (λ i. when_set (bit_at input i) (window_after key i)) (length input * 8)
    (λ i h. ap (when_set (bit_at input i)) (sym (window-after-steps key o i)))

-- ---- the two-way call

-- here too the contract leaves no choice
two-way-answer : Outcome Verdict → Result (Option ℕ) TwoWayRefusal
two-way-answer (value agree) = Ok None
two-way-answer (value (differ_at b)) = Ok (Some b)
two-way-answer (refused n) = cond (eqb n key_length_wrong) (Err KeyLength₂) (Err UnknownType)

two-way-answer-back : (r : Result (Option ℕ) TwoWayRefusal) → two-way-answer (two_way_outcome_of r) ≡ r
unfolding two-way-answer
two-way-answer-back (Ok None) = refl
two-way-answer-back (Ok (Some b)) = refl
two-way-answer-back (Err KeyLength₂) = refl
two-way-answer-back (Err UnknownType) = refl

pub two-way-answer-determined : (r s : Result (Option ℕ) TwoWayRefusal) → two_way_outcome_of r ≡ two_way_outcome_of s → r ≡ s
two-way-answer-determined r s e = sym (two-way-answer-back r) ∙ ap two-way-answer e ∙ two-way-answer-back s

-- the inputs of the four types have 8, 12, 32 and 36 octets
pub input-sizes : (input_size 0 ≡ 8) × (input_size 1 ≡ 12) × (input_size 2 ≡ 32) × (input_size 3 ≡ 36)
input-sizes = (refl, refl, refl, refl)

-- an input with one bit set is one of them
pub single-bit-is-input : (t b : ℕ) → b < input_size t * 8 → IsInput t (single_bit t b)
single-bit-is-input t b h = one-is-input t b h

-- the hash call takes each of them
pub input-short : (t : ℕ) → t ≤ last_type → input_size t ≤ max_input
input-short zero h = lit≤ tt
input-short (suc zero) h = lit≤ tt
input-short (suc (suc zero)) h = lit≤ tt
input-short (suc (suc (suc zero))) h = lit≤ tt
input-short (suc (suc (suc (suc t)))) h = absurd (omega arith)

module _ (key : List ℕ) (t : ℕ) where
  -- it answers a verdict exactly where 8 and 9 let key and type through
  pub two-way-is-verdict : (v : Verdict)
      → (two_way_outcome key t ≡ value v) ↔ ((length key ≡ key_length) × (t ≤ last_type) × (verdict key t ≡ v))
  two-way-is-verdict v = value-exactly (verdict key t) type_unknown key t last_type v

  -- 8 exactly where the key is not 40 octets
  pub two-way-refuses-key : (two_way_outcome key t ≡ refused key_length_wrong) ↔ (length key ≡ key_length → ⊥)
  two-way-refuses-key = key-refused-exactly (verdict key t) type_unknown key t last_type (λ q. omega arith)

  -- 9 exactly where the key is, and the type is above 3
  pub two-way-refuses-type : (two_way_outcome key t ≡ refused type_unknown) ↔ ((length key ≡ key_length) × (last_type < t))
  two-way-refuses-type = limit-refused-exactly (verdict key t) type_unknown key t last_type (λ q. omega arith)

module _ (key : List ℕ) (t : ℕ) (hk : length key ≡ key_length) (ht : t ≤ last_type) where
  -- yes exactly when every input of the type and its reverse have equal published hashes
  pub two-way-yes-exactly : (two_way_outcome key t ≡ value agree) ↔ ((xs : List ℕ) → IsInput t xs → EqualHashes key t xs)
  two-way-yes-exactly = (
    λ e. (verdict-agree key t).0 ((two-way-is-verdict key t agree).0 e).2,
    λ w. (two-way-is-verdict key t agree).1 (hk, ht, (verdict-agree key t).1 w),
  )

  -- which is when the hash call answers alike for every input of the type and its reverse
  pub two-way-yes-hash-calls : (two_way_outcome key t ≡ value agree)
      ↔ ((xs : List ℕ) → IsInput t xs → hash_outcome key xs ≡ hash_outcome key (reverse_of t xs))
  two-way-yes-hash-calls = (
    λ e xs q. answers xs q ∙ ap value (two-way-yes-exactly.0 e xs q) ∙ sym (answers (reverse_of t xs) (reverse-is-input t xs q)),
    λ w. two-way-yes-exactly.1 (λ xs q. cc (answers xs q, w xs q, answers (reverse_of t xs) (reverse-is-input t xs q))),
  )
    where
      answers : (xs : List ℕ) → IsInput t xs → hash_outcome key xs ≡ value (published_hash key xs)
      answers xs q = (hash-is-published key xs (published_hash key xs)).1 (hk, rw q.size (input-short t ht), refl)

  -- no at b exactly when that bit alone tells an input from its reverse, and no lower one does
  pub two-way-no-exactly : (b : ℕ) → (two_way_outcome key t ≡ value (differ_at b))
      ↔ ((b < input_size t * 8) × (EqualHashes key t (single_bit t b) → ⊥) × ((k : ℕ) → k < b → EqualHashes key t (single_bit t k)))
  unfolding verdict tells_apart
  two-way-no-exactly b =
      let lowest = differ-exactly (tells_apart key t) (input_size t * 8) b in (
        λ e. let found = lowest.0 ((two-way-is-verdict key t (differ_at b)).0 e).2 in
            (found.0, eqb-false _ _ (not-true _ found.1), λ k l. eqb-true _ _ (not-false _ (found.2 k l))),
        λ q. (two-way-is-verdict key t (differ_at b)).1
            (hk, ht, lowest.1 (q.0, ap not (ne_eqb _ _ q.1), λ k l. ap not (eq-eqb _ _ (q.2 k l)))),
      )

  -- it answers one of the two
  pub two-way-answers : (two_way_outcome key t ≡ value agree) ⊎ ((b : ℕ) × (two_way_outcome key t ≡ value (differ_at b)))
  two-way-answers = by-case (verdict key t) ((two-way-is-verdict key t (verdict key t)).1 (hk, ht, refl))
    where
      by-case : (v : Verdict) → two_way_outcome key t ≡ value v
          → (two_way_outcome key t ≡ value agree) ⊎ ((b : ℕ) × (two_way_outcome key t ≡ value (differ_at b)))
      by-case agree e = inl e
      by-case (differ_at b) e = inr (b, e)

  -- a key that repeats every two octets is two-way for all four types
  pub two-way-repeating-key : RepeatsEveryTwo key → two_way_outcome key t ≡ value agree
  two-way-repeating-key r = (two-way-is-verdict key t agree).1 (hk, ht, repeats-agree key r t ht)
