-- The type, hash and queue of a packet under the flags, key and mapping table of an interface.
use Rattle.std.specs.Prelude.{◌≡◌, ◌-◌, ◌/◌, ◌%◌, ◌^◌, ◌≤◌}
use Rattle.octets.specs.Prelude.{List, Bool, cond, ℕ, length, get_or, eqb}
use Rattle.toeplitz.specs.Hash.{key_length, published_hash}
use Rattle.toeplitz.specs.TwoWay.{type_number}
use Rattle.packet.specs.Packets.{PacketType, no_type, hash_type, kind_of, input_of}
use Rattle.steering.specs.declared.Steered.{Steered}
use Rattle.steering.specs.declared.Steered.TheVariants.{NoType, Hashed}

-- whether the flag of type t is set: flag values 1, 2, 4, 8 for types 0, 1, 2, 3
unfoldable pub is_set : ℕ → ℕ → Bool
is_set flags t = eqb (flags / 2 ^ t % 2) 1

-- the plain type beside a TCP type, 0 beside 1 and 2 beside 3; a plain type itself
abbrev pub plain_type : ℕ → ℕ
plain_type t = t - t % 2

-- the type used for a packet of a kind: a TCP packet uses its TCP type if that flag is set, else the plain type if set;
-- any other packet only the plain type
unfoldable pub type_used : ℕ → PacketType → PacketType
type_used flags no_type = no_type
type_used flags (hash_type t) =
    cond (is_set flags t) (hash_type t) (cond (is_set flags (plain_type t)) (hash_type (plain_type t)) no_type)

-- the queue of a hash: the mapping entry at the hash modulo the entry count
unfoldable pub queue_of : List ℕ → ℕ → ℕ
queue_of table hash = get_or table (hash % length table) 0

-- what is chosen for a packet: a queue alone, or type, hash and queue
pub data Choice : Type 0 where
  unhashed : ℕ → Choice
  hashed : ℕ → ℕ → ℕ → Choice

abbrev pub queue_in : Choice → ℕ
queue_in (unhashed queue) = queue
queue_in (hashed t hash queue) = queue

abbrev pub hashed_to : ℕ → ℕ → List ℕ → Choice
hashed_to t hash table = hashed t hash (queue_of table hash)

-- without a type there is no hash and the queue is 0
unfoldable pub chosen : List ℕ → List ℕ → List ℕ → PacketType → Choice
chosen key table packet no_type = unhashed 0
chosen key table packet (hash_type t) = hashed_to t (published_hash key (input_of t packet)) table

-- the choice for a packet under flags, key and table
abbrev pub steered : ℕ → List ℕ → List ℕ → List ℕ → Choice
steered flags key table packet = chosen key table packet (type_used flags (kind_of packet))

-- what holds of key and table of every interface: the key is 40 octets, and the table has an entry
pub record Usable (key table : List ℕ) : Type 0 where
  pub key-whole : length key ≡ key_length
  pub some-entry : 1 ≤ length table

-- the values that each case of the enum stands for
abbrev pub choice_of : Steered → Choice
choice_of (NoType queue) = unhashed queue
choice_of (Hashed t hash queue) = hashed (type_number t) hash queue
