-- The IP packet in a record.
use Rattle.std.specs.Prelude.{◌&&◌, ◌||◌}
use Rattle.octets.specs.Prelude.{List, [], Bool, cond, ℕ, length, drop, eqb, leb}
use Rattle.capture.specs.Header.{big_endian_at}
use Rattle.capture.specs.declared.Link.{Link}
use Rattle.capture.specs.declared.Link.TheVariants.{Ethernet, Raw}

abbrev pub ethernet_header : ℕ
ethernet_header = 14

-- an Ethernet record holds an IP packet if octets 12-13 are 0800 or 86DD (hex)
unfoldable pub holds_ip : List ℕ → Bool
holds_ip frame =
    leb ethernet_header (length frame) && (eqb (big_endian_at 2 frame 12) 0x0800 || eqb (big_endian_at 2 frame 12) 0x86DD)

-- the IP packet: behind the Ethernet header, or at the start of a raw record; no octets where there is none
unfoldable pub ip_part : Link → List ℕ → List ℕ
ip_part Ethernet captured = cond (holds_ip captured) (drop ethernet_header captured) []
ip_part Raw captured = captured
