-- The header of a classic libpcap capture, 24 octets:
--   0 magic number (4)   4 major version (2)   6 minor version (2)   8 time zone (4)   12 accuracy (4)
--   16 snapshot length (4)   20 link type (4)
-- Its numbers, and those of every record's header, are in the order in which the magic number was written.
use Rattle.std.specs.Prelude.{◌&&◌, ◌+◌, ◌*◌, ◌^◌, Result, Ok, Err}
use Rattle.octets.specs.Prelude.{List, Bool, cond, ℕ, zero, suc, length, get_or, eqb, leb}
use Rattle.octets.specs.Outcome.{Outcome, value, refused}
use Rattle.octets.specs.Numbers.{number_at}
use Rattle.capture.specs.declared.Order.{Order}
use Rattle.capture.specs.declared.Order.TheVariants.{LowFirst, HighFirst}
use Rattle.capture.specs.declared.Link.{Link}
use Rattle.capture.specs.declared.Link.TheVariants.{Ethernet, Raw}
use Rattle.capture.specs.declared.HeaderWrong.{HeaderWrong}

-- refusal 14: bad capture header
abbrev pub header_wrong : ℕ
header_wrong = 14

abbrev pub capture_header : ℕ
capture_header = 24

-- the number in the n octets from index i on, the highest first (octets past the end count as 0)
unfoldable pub big_endian_at : ℕ → List ℕ → ℕ → ℕ
big_endian_at zero xs i = 0
big_endian_at (suc n) xs i = get_or xs i 0 * 256 ^ n + big_endian_at n xs (i + 1)

-- and in either order
abbrev pub number_in : Order → ℕ → List ℕ → ℕ → ℕ
number_in LowFirst n xs i = number_at n xs i
number_in HighFirst n xs i = big_endian_at n xs i

-- the magic number of a capture whose times are in microseconds
abbrev pub magic : ℕ
magic = 0xA1B2C3D4

-- the order of a capture: the one in which its first four octets are the magic number (lowest first where neither is)
unfoldable pub order_of : List ℕ → Order
order_of xs = cond (eqb (big_endian_at 4 xs 0) magic) HighFirst LowFirst

-- microsecond magic, version 2.4
unfoldable pub is_classic : Order → List ℕ → Bool
is_classic o xs = eqb (number_in o 4 xs 0) magic && (eqb (number_in o 2 xs 4) 2 && eqb (number_in o 2 xs 6) 4)

-- link types 1 and 101, and no other
unfoldable pub link_outcome : ℕ → Outcome Link
link_outcome n = cond (eqb n 1) (value Ethernet) (cond (eqb n 101) (value Raw) (refused header_wrong))

-- what the records of a capture hold, or refusal 14
unfoldable pub header_outcome : List ℕ → Outcome Link
header_outcome xs =
    let o = order_of xs in
    cond (leb capture_header (length xs) && is_classic o xs) (link_outcome (number_in o 4 xs 20)) (refused header_wrong)

-- the value, or the number of the refusal
abbrev pub header_outcome_of : Result Link HeaderWrong → Outcome Link
header_outcome_of (Ok link) = value link
header_outcome_of (Err e) = refused header_wrong
