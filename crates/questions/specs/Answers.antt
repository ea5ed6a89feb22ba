-- How a call tells what the call behind it answers: a number as its result, and values in places. A place that nothing is put
-- into, as where a call is refused, is as it was before.
use Rattle.std.specs.Prelude.{◌≡◌}
use Rattle.octets.specs.Prelude.{ℕ}
use Rattle.toeplitz.specs.TwoWay.{Verdict, agree, differ_at}
use Rattle.steering.specs.Steering.{Choice, unhashed, hashed, queue_in}

-- of the two-way answer: 1 for yes and 0 for no; and the bit, where there is one
abbrev pub meets : Verdict → ℕ → ℕ
meets agree before = 1
meets (differ_at b) before = 0

abbrev pub bit_told : Verdict → ℕ → ℕ
bit_told agree before = before
bit_told (differ_at b) before = b

-- of the choice for a packet: 1 where it is hashed and 0 where not; and the type and the hash, where there are any
abbrev pub choice_number : Choice → ℕ
choice_number (unhashed queue) = 0
choice_number (hashed t hash queue) = 1

abbrev pub type_told : Choice → ℕ → ℕ
type_told (unhashed queue) before = before
type_told (hashed t hash queue) before = t

abbrev pub hash_told : Choice → ℕ → ℕ
hash_told (unhashed queue) before = before
hash_told (hashed t hash queue) before = hash

-- the packet question answered with a choice: the number r, and the three places, by what the first two held before
pub record Steers (c : Choice) (t₀ h₀ r t h queue : ℕ) : Type 0 where
  pub number : r ≡ choice_number c
  pub hash-type : t ≡ type_told c t₀
  pub hash : h ≡ hash_told c h₀
  pub in-queue : queue ≡ queue_in c
