-- The lines that the programs print.
use Rattle.std.specs.Prelude.{◌++◌}
use Rattle.octets.specs.Prelude.{List, cond, ℕ, length, take, drop, eqb}
use Rattle.octets.specs.Outcome.{Outcome, value, refused}
use Rattle.toeplitz.specs.Refusals.{key_length_wrong}
use Rattle.toeplitz.specs.Hash.{key_length, hash_outcome}
use Rattle.toeplitz.specs.TwoWay.{Verdict, agree, differ_at, two_way_outcome}
use Rattle.text.specs.Ascii.{ascii, decimal, hex8}

-- a word, a number and the line's end
abbrev pub number_line : List ℕ → ℕ → List ℕ
number_line word n = word ++ (decimal n ++ ascii "\n")

-- a refusal by its number
abbrev pub refusal_line : ℕ → List ℕ
refusal_line n = number_line (ascii "refused ") n

-- a hash as eight hexadecimal digits
abbrev pub hash_line : Outcome ℕ → List ℕ
hash_line (value h) = hex8 h ++ ascii "\n"
hash_line (refused n) = refusal_line n

-- a two-way answer: yes, or no and the bit position
abbrev pub verdict_line : Outcome Verdict → List ℕ
verdict_line (value agree) = ascii "yes\n"
verdict_line (value (differ_at b)) = number_line (ascii "no ") b
verdict_line (refused n) = refusal_line n

-- what the hash program prints for the octets that it reads: 40 key octets and then the input
abbrev pub hash_text : List ℕ → List ℕ
hash_text octets = hash_line (hash_outcome (take key_length octets) (drop key_length octets))

-- a line for each hash type
unfoldable pub type_lines : List ℕ → List ℕ
type_lines key =
    (ascii "ipv4 " ++ verdict_line (two_way_outcome key 0))
    ++ ((ascii "ipv4_tcp " ++ verdict_line (two_way_outcome key 1))
    ++ ((ascii "ipv6 " ++ verdict_line (two_way_outcome key 2)) ++ (ascii "ipv6_tcp " ++ verdict_line (two_way_outcome key 3))))

-- what the two-way program prints for the key that it reads
abbrev pub two_way_text : List ℕ → List ℕ
two_way_text key = cond (eqb (length key) key_length) (type_lines key) (refusal_line key_length_wrong)
