-- The kind of a packet, and where its hash input stands.
use Rattle.std.specs.Prelude.{Option, None, Some, ◌&&◌, ◌||◌, ◌+◌, ◌*◌, ◌/◌, ◌%◌, ◌^◌}
use Rattle.octets.specs.Prelude.{List, Bool, cond, not, ℕ, zero, suc, length, get_or, take, drop, eqb, leb}
use Rattle.toeplitz.specs.TwoWay.{type_number, address_size, input_size}
use Rattle.packet.specs.declared.IpPacket.{IpPacket}

-- a hash type by its number (0 IPv4, 1 IPv4 TCP, 2 IPv6, 3 IPv6 TCP), or none
pub data PacketType : Type 0 where
  no_type : PacketType
  hash_type : ℕ → PacketType

-- IPv4: 20 octets or more, the first of them 0x45
unfoldable pub is_ipv4 : List ℕ → Bool
is_ipv4 p = leb 20 (length p) && eqb (get_or p 0 0) 0x45

-- IPv6: 40 octets or more, the top four bits 6
unfoldable pub is_ipv6 : List ℕ → Bool
is_ipv6 p = leb 40 (length p) && eqb (get_or p 0 0 / 16) 6

-- TCP by number and length: the octet at `at` is 6, and there are `least` octets or more; no more is asked of IPv6
unfoldable pub is_tcp : ℕ → ℕ → List ℕ → Bool
is_tcp at least p = leb least (length p) && eqb (get_or p at 0) 6

-- RFC 791: octets 6 and 7 of an IPv4 packet, taken as one number with octet 6 on top, hold from the top bit down a
-- reserved bit, the don't-fragment bit, the more-fragments bit, and the 13 bits of the fragment offset
unfoldable pub fragment_field : List ℕ → ℕ
fragment_field p = get_or p 6 0 * 256 + get_or p 7 0

unfoldable pub more_fragments : List ℕ → ℕ
more_fragments p = fragment_field p / 2 ^ 13 % 2

unfoldable pub fragment_offset : List ℕ → ℕ
fragment_offset p = fragment_field p % 2 ^ 13

-- a fragment of a datagram: more-fragments bit and offset, fourteen bits, are not all zero
unfoldable pub is_fragment : List ℕ → Bool
is_fragment p = eqb (more_fragments p) 1 || leb 1 (fragment_offset p)

-- IPv4 TCP: octet 9 is 6, there are 24 octets or more, and the packet is no fragment
unfoldable pub is_ipv4_tcp : List ℕ → Bool
is_ipv4_tcp p = is_tcp 9 24 p && not (is_fragment p)

-- the kind of a packet, by the type that is its own
unfoldable pub kind_of : List ℕ → PacketType
kind_of p =
    cond (is_ipv4 p) (hash_type (cond (is_ipv4_tcp p) 1 0))
    (cond (is_ipv6 p) (hash_type (cond (is_tcp 6 44 p) 3 2)) no_type)

-- where the input of a type begins: at the source address
abbrev pub input_start : ℕ → ℕ
input_start zero = 12
input_start (suc zero) = 12
input_start (suc (suc t)) = 8

-- the input of type t: source, destination, then for TCP types source and destination port
unfoldable pub input_of : ℕ → List ℕ → List ℕ
input_of t p = take (input_size t) (drop (input_start t) p)

-- the source and the destination address of an IPv4 packet
abbrev pub ipv4_source : List ℕ → List ℕ
ipv4_source p = take 4 (drop 12 p)

abbrev pub ipv4_destination : List ℕ → List ℕ
ipv4_destination p = take 4 (drop 16 p)

-- what a packet is found to be: none, or a type with the places where the addresses begin, where they end, and where
-- the input of the type ends
pub data Look : Type 0 where
  none : Look
  typed : ℕ → ℕ → ℕ → ℕ → Look

unfoldable pub look_at : PacketType → Look
look_at no_type = none
look_at (hash_type t) =
    typed t (input_start t) (input_start t + (address_size t + address_size t)) (input_start t + input_size t)

-- what an answer says, by the number of the type
abbrev pub look_of : Option IpPacket → Look
look_of None = none
look_of (Some p) = typed (type_number p.hash_type) p.addresses p.ports p.end
