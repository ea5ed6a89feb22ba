-- Control messages as octets, as both ends write and read them.
use Rattle.std.specs.Prelude.{◌++◌, ◌+◌}
use Rattle.octets.specs.Prelude.{List, ℕ, length, drop}
use Rattle.octets.specs.Numbers.{number_at, octets_of}

-- the largest payload kept
abbrev pub max_payload : ℕ
max_payload = 1024

-- octets of a header, and of document 01's field drawn across a whole row: status, flags, queue entry
abbrev pub header_size : ℕ
header_size = 8

abbrev pub field_size : ℕ
field_size = 8

-- a header: type, size of the payload; and a message
unfoldable pub header : ℕ → ℕ → List ℕ
header t size = octets_of 4 t ++ octets_of 4 size

unfoldable pub message : ℕ → List ℕ → List ℕ
message t payload = header t (length payload) ++ payload

-- what a header says, and what stands behind it
abbrev pub type_in : List ℕ → ℕ
type_in m = number_at 4 m 0

abbrev pub size_in : List ℕ → ℕ
size_in m = number_at 4 m 4

abbrev pub payload_in : List ℕ → List ℕ
payload_in m = drop header_size m

-- the status in an ack, and the flags behind it
abbrev pub status_in : List ℕ → ℕ
status_in m = number_at field_size m header_size

abbrev pub ack_flags_in : List ℕ → ℕ
ack_flags_in m = number_at field_size m (header_size + field_size)

-- the type of an ack, and those of the four requests
abbrev pub ack_type : ℕ
ack_type = 1

abbrev pub get_flags_type : ℕ
get_flags_type = 2

abbrev pub set_flags_type : ℕ
set_flags_type = 3

abbrev pub set_key_type : ℕ
set_key_type = 4

abbrev pub set_mapping_type : ℕ
set_mapping_type = 5

-- the statuses, by their names in netif.h
abbrev pub success : ℕ
success = 0

abbrev pub not_supported : ℕ
not_supported = 1

abbrev pub invalid_parameter : ℕ
invalid_parameter = 2

abbrev pub buffer_overflow : ℕ
buffer_overflow = 3

-- the value of all flags together: what is supported, and the largest that can be set
abbrev pub all_flags : ℕ
all_flags = 15
