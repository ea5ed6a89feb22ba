-- The XOR of two keys, or of two inputs of one length: octet by octet.
use Rattle.std.specs.Prelude.{◌∷◌}
use Rattle.octets.specs.Prelude.{List, [], ℕ, bit_xor}

-- (of two lists of unequal length, the longer one's other octets stay)
unfoldable pub xor_octets : List ℕ → List ℕ → List ℕ
xor_octets [] ys = ys
xor_octets (x ∷ xs) [] = x ∷ xs
xor_octets (x ∷ xs) (y ∷ ys) = bit_xor x y ∷ xor_octets xs ys
