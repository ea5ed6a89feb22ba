-- Words and numbers as the octets that a program prints.
use Rattle.std.specs.Prelude.{◌∷◌, ◌/◌}
use Rattle.octets.specs.Prelude.{List, [], cond, ℕ, zero, suc, ltb}
use Prim.Native.Char.{code}
use Prim.Native.String.{String, [] as no_text, ◌∷◌ as ◌and_text◌}
use Rattle.io.specs.Digits.{last_digits}

-- the octets of a text of ASCII characters
abbrev pub ascii : String → List ℕ
ascii no_text = []
ascii (c and_text s) = code c ∷ ascii s

-- how many decimal digits n takes, at most one more than f
abbrev pub places_in : ℕ → ℕ → ℕ
places_in zero n = 1
places_in (suc f) n = cond (ltb n 10) 1 (suc (places_in f (n / 10)))

-- the fewest decimal digits that hold n (n is more than enough digits)
unfoldable pub decimal : ℕ → List ℕ
decimal n = last_digits 10 (places_in n n) n

-- eight hexadecimal digits, in lower case
unfoldable pub hex8 : ℕ → List ℕ
hex8 n = last_digits 16 8 n
