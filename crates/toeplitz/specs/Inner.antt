-- What the private functions promise each other. Nothing here is needed to read the promises of the calls.
use Rattle.octets.specs.Prelude.{List, ℕ}
use Rattle.toeplitz.specs.Hash.{term_at, xor_below}

-- the XOR of the windows at the set input bits below i
abbrev pub hash_below : List ℕ → List ℕ → ℕ → ℕ
hash_below key input i = xor_below (term_at key input) i
