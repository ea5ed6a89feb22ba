-- The refusals of this crate, by document 01's numbers.
use Rattle.octets.specs.Prelude.{ℕ}

-- hash input above 36 octets
abbrev pub input_too_long : ℕ
input_too_long = 7

-- key not 40 octets
abbrev pub key_length_wrong : ℕ
key_length_wrong = 8

-- hash type above 3
abbrev pub type_unknown : ℕ
type_unknown = 9
