-- The published hash of a key and an input, and what a hash call answers.
use Rattle.std.specs.Prelude.{Result, ◌+◌, ◌-◌, ◌*◌, ◌/◌, ◌%◌, ◌^◌}
use Rattle.octets.specs.Prelude.{List, cond, ℕ, zero, suc, length, get_or, eqb, leb, bit_xor}
use Rattle.octets.specs.Outcome.{Outcome, value, refused, outcome_of}
use Rattle.toeplitz.specs.Refusals.{input_too_long, key_length_wrong}
use Rattle.toeplitz.specs.declared.HashRefusal.{HashRefusal}
use Rattle.toeplitz.specs.declared.HashRefusal.TheVariants.{KeyLength, InputLength}

-- octets of a key, and the most octets of a hash input
abbrev pub key_length : ℕ
key_length = 40

abbrev pub max_input : ℕ
max_input = 36

-- bit i of a key or an input: bit 0 is the top bit of octet 0
abbrev pub bit_at : List ℕ → ℕ → ℕ
bit_at xs i = get_or xs (i / 8) 0 / 2 ^ (7 - i % 8) % 2

-- the n bits from bit i on, as a number whose top bit is bit i
unfoldable pub bits_at : List ℕ → ℕ → ℕ → ℕ
bits_at xs i zero = 0
bits_at xs i (suc n) = bits_at xs i n * 2 + bit_at xs (i + n)

-- document 01's window at i: key bits i to i + 31
unfoldable pub window_at : List ℕ → ℕ → ℕ
window_at key i = bits_at key i 32

-- w where the bit is set, else 0
unfoldable pub when_set : ℕ → ℕ → ℕ
when_set zero w = 0
when_set (suc b) w = w

-- what input bit i adds to the hash: the window at i, where the bit is set
unfoldable pub term_at : List ℕ → List ℕ → ℕ → ℕ
term_at key input i = when_set (bit_at input i) (window_at key i)

-- the XOR of f 0, f 1, .., f (n - 1); 0 where there is none
unfoldable pub xor_below : (ℕ → ℕ) → ℕ → ℕ
xor_below f zero = 0
xor_below f (suc n) = bit_xor (xor_below f n) (f n)

-- document 01's published hash: the XOR of the windows at every set input bit, 0 for an empty input
unfoldable pub published_hash : List ℕ → List ℕ → ℕ
published_hash key input = xor_below (term_at key input) (length input * 8)

-- what the hash call answers: the first refusal whose condition holds, 8 before 7, else the published hash
abbrev pub hash_outcome : List ℕ → List ℕ → Outcome ℕ
hash_outcome key input =
    cond (eqb (length key) key_length)
    (cond (leb (length input) max_input) (value (published_hash key input)) (refused input_too_long))
    (refused key_length_wrong)

-- the number that each refusal stands for, and what an answer says
abbrev pub hash_refusal_number : HashRefusal → ℕ
hash_refusal_number KeyLength = key_length_wrong
hash_refusal_number InputLength = input_too_long

abbrev pub hash_outcome_of : Result ℕ HashRefusal → Outcome ℕ
hash_outcome_of r = outcome_of hash_refusal_number r
