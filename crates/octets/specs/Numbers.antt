-- Numbers in octets. Document 01: all numbers are unsigned and little-endian, so the lowest octet stands first.
use Rattle.std.specs.Prelude.{◌∷◌, ◌+◌, ◌*◌, ◌/◌, ◌%◌, ◌<◌}
use Rattle.octets.specs.Prelude.{List, [], ℕ, zero, suc, get_or}

-- a list of octets: each number in it is below 256
abbrev pub AreOctets : List ℕ → Type 0
AreOctets xs = (i : ℕ) → get_or xs i 0 < 256

-- the number in the n octets from index i on (octets past the end count as 0)
unfoldable pub number_at : ℕ → List ℕ → ℕ → ℕ
number_at zero xs i = 0
number_at (suc n) xs i = get_or xs i 0 + 256 * number_at n xs (i + 1)

-- a number in n octets
unfoldable pub octets_of : ℕ → ℕ → List ℕ
octets_of zero v = []
octets_of (suc n) v = v % 256 ∷ octets_of n (v / 256)
