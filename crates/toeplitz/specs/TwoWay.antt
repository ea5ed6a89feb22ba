-- The inputs of each hash type, the reverse of an input, and what the two-way question answers.
use Rattle.std.specs.Prelude.{Option, None, Some, Result, Ok, Err, ◌≡◌, ◌++◌, ◌+◌, ◌-◌, ◌*◌, ◌/◌, ◌%◌, ◌^◌, ◌<◌}
use Rattle.octets.specs.Prelude.{List, Bool, true, false, not, cond, ℕ, zero, suc}
use Rattle.octets.specs.Prelude.{length, get_or, take, drop, set, replicate, eqb, leb}
use Rattle.octets.specs.Numbers.{AreOctets}
use Rattle.octets.specs.Outcome.{Outcome, value, refused}
use Rattle.toeplitz.specs.Refusals.{key_length_wrong, type_unknown}
use Rattle.toeplitz.specs.Hash.{key_length, published_hash}
use Rattle.toeplitz.specs.declared.TwoWayRefusal.{TwoWayRefusal}
use Rattle.toeplitz.specs.declared.TwoWayRefusal.TheVariants.{KeyLength, UnknownType}
use Rattle.toeplitz.specs.declared.HashType.{HashType}
use Rattle.toeplitz.specs.declared.HashType.TheVariants.{Ipv4, Ipv4Tcp, Ipv6, Ipv6Tcp}

-- the hash types: 0 IPv4, 1 IPv4 TCP, 2 IPv6, 3 IPv6 TCP
abbrev pub last_type : ℕ
last_type = 3

-- the number of each type by its name in the code, and the type with a number, of which there is none above 3
abbrev pub type_number : HashType → ℕ
type_number Ipv4 = 0
type_number Ipv4Tcp = 1
type_number Ipv6 = 2
type_number Ipv6Tcp = 3

unfoldable pub type_of : ℕ → Result HashType TwoWayRefusal
type_of n =
    cond (eqb n 0) (Ok Ipv4)
    (cond (eqb n 1) (Ok Ipv4Tcp) (cond (eqb n 2) (Ok Ipv6) (cond (eqb n 3) (Ok Ipv6Tcp) (Err UnknownType))))

-- octets of an address in an input of type t: 4 for IPv4, 16 for IPv6
abbrev pub address_size : ℕ → ℕ
address_size zero = 4
address_size (suc zero) = 4
address_size (suc (suc t)) = 16

-- octets of a port in it: 2 for the TCP types, none for the others
abbrev pub port_size : ℕ → ℕ
port_size zero = 0
port_size (suc zero) = 2
port_size (suc (suc zero)) = 0
port_size (suc (suc (suc t))) = 2

-- octets of two addresses of a octets each, then two ports of p
abbrev pub size_of : ℕ → ℕ → ℕ
size_of a p = a + a + (p + p)

abbrev pub input_size : ℕ → ℕ
input_size t = size_of (address_size t) (port_size t)

-- document 01's input of type t: any octets of that number, whether a packet carries them or not
pub record IsInput (t : ℕ) (xs : List ℕ) : Type 0 where
  pub size : length xs ≡ input_size t
  pub octets : AreOctets xs

-- source and destination address exchanged, then source and destination port
unfoldable pub swapped : ℕ → ℕ → List ℕ → List ℕ
swapped a p xs = take a (drop a xs) ++ (take a xs ++ (take p (drop (a + a + p) xs) ++ take p (drop (a + a) xs)))

-- document 01's reverse of an input of type t
abbrev pub reverse_of : ℕ → List ℕ → List ℕ
reverse_of t xs = swapped (address_size t) (port_size t) xs

-- n octets with bit b alone set
unfoldable pub one_bit : ℕ → ℕ → List ℕ
one_bit n b = set (replicate n 0) (b / 8) (2 ^ (7 - b % 8))

-- the input of type t with bit b alone set
abbrev pub single_bit : ℕ → ℕ → List ℕ
single_bit t b = one_bit (input_size t) b

-- an input and its reverse have equal published hashes
abbrev pub EqualHashes : List ℕ → ℕ → List ℕ → Type 0
EqualHashes key t xs = published_hash key xs ≡ published_hash key (reverse_of t xs)

-- the input of type t with bit b alone set has another published hash than its reverse
unfoldable pub tells_apart : List ℕ → ℕ → ℕ → Bool
tells_apart key t b = not (eqb (published_hash key (single_bit t b)) (published_hash key (reverse_of t (single_bit t b))))

-- document 01's two-way answer: `agree` is its yes, `differ_at b` its no with the bit position b
pub data Verdict : Type 0 where
  agree : Verdict
  differ_at : ℕ → Verdict

-- the verdict so far, with one position more looked at
abbrev pub or_at : Verdict → Bool → ℕ → Verdict
or_at agree true n = differ_at n
or_at agree false n = agree
or_at (differ_at b) t n = differ_at b

-- `differ_at` the lowest number below n that passes the test, `agree` where none does
unfoldable pub lowest : (ℕ → Bool) → ℕ → Verdict
lowest f zero = agree
lowest f (suc n) = or_at (lowest f n) (f n) n

-- the two-way answer of a key for the inputs of type t
unfoldable pub verdict : List ℕ → ℕ → Verdict
verdict key t = lowest (tells_apart key t) (input_size t * 8)

-- what the two-way call answers: the first refusal whose condition holds, 8 before 9, else the verdict
abbrev pub two_way_outcome : List ℕ → ℕ → Outcome Verdict
two_way_outcome key t =
    cond (eqb (length key) key_length) (cond (leb t last_type) (value (verdict key t)) (refused type_unknown))
    (refused key_length_wrong)

-- the number that each refusal stands for, and what an answer says: a bit that tells, or none
abbrev pub two_way_refusal_number : TwoWayRefusal → ℕ
two_way_refusal_number KeyLength = key_length_wrong
two_way_refusal_number UnknownType = type_unknown

abbrev pub verdict_of : Option ℕ → Verdict
verdict_of None = agree
verdict_of (Some b) = differ_at b

abbrev pub two_way_outcome_of : Result (Option ℕ) TwoWayRefusal → Outcome Verdict
two_way_outcome_of (Ok bit) = value (verdict_of bit)
two_way_outcome_of (Err e) = refused (two_way_refusal_number e)

-- a key that repeats every two octets
abbrev pub RepeatsEveryTwo : List ℕ → Type 0
RepeatsEveryTwo key = (i : ℕ) → i + 2 < key_length → get_or key (i + 2) 0 ≡ get_or key i 0
