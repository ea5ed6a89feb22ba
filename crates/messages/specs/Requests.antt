-- Requests judged and carried out: the status, the settings left, and the ack.
use Rattle.std.specs.Prelude.{Result, Ok, Err, ◌∷◌, ◌++◌, ◌&&◌, ◌-◌, ◌/◌, ◌%◌}
use Rattle.octets.specs.Prelude.{List, [], Bool, true, false, cond, ℕ, zero, suc, length, take}
use Rattle.octets.specs.Prelude.{drop, replicate, eqb, leb, ltb}
use Rattle.octets.specs.Numbers.{number_at, octets_of}
use Rattle.toeplitz.specs.Hash.{key_length}
use Rattle.messages.specs.Wire.{field_size, message, type_in, size_in, payload_in, status_in, ack_type, get_flags_type, set_flags_type, set_key_type}
use Rattle.messages.specs.Wire.{set_mapping_type, success, not_supported, invalid_parameter, buffer_overflow, all_flags}
use Rattle.messages.specs.Settings.{Settings, max_entries, is_power_of_two, mapping_of}
use Rattle.messages.specs.declared.RequestType.{RequestType}
use Rattle.messages.specs.declared.RequestType.TheVariants.{GetFlags, SetFlags, SetKey, SetMapping}
use Rattle.messages.specs.declared.Refusal.{Refusal}
use Rattle.messages.specs.declared.Refusal.TheVariants.{NotSupported, InvalidParameter, BufferOverflow}
use Rattle.messages.specs.declared.Mapping.{Mapping}
use Rattle.messages.specs.declared.Ack.{Ack}

-- the four requests; every other type, 1 and 0 too, is none of them
pub data Request : Type 0 where
  get_flags : Request
  set_flags : Request
  set_key : Request
  set_mapping : Request
  none : Request

unfoldable pub request_of : ℕ → Request
request_of t =
    cond (eqb t get_flags_type) get_flags
    (cond (eqb t set_flags_type) set_flags (cond (eqb t set_key_type) set_key (cond (eqb t set_mapping_type) set_mapping none)))

-- a request by its name in the code, of which there is none for any other type
abbrev pub named : Request → Result RequestType Refusal
named get_flags = Ok GetFlags
named set_flags = Ok SetFlags
named set_key = Ok SetKey
named set_mapping = Ok SetMapping
named none = Err NotSupported

-- the status that each refusal stands for, and that of a request which is carried out or refused
abbrev pub refusal_status : Refusal → ℕ
refusal_status NotSupported = not_supported
refusal_status InvalidParameter = invalid_parameter
refusal_status BufferOverflow = buffer_overflow

abbrev pub status_told : Result Unit Refusal → ℕ
status_told (Ok u) = success
status_told (Err e) = refusal_status e

-- what a payload holds: a flags value, a key, n queue entries
abbrev pub flags_in : List ℕ → ℕ
flags_in p = number_at field_size p 0

abbrev pub key_in : List ℕ → List ℕ
key_in p = take key_length p

unfoldable pub entries_in : ℕ → List ℕ → List ℕ
entries_in zero p = []
entries_in (suc n) p = number_at field_size p 0 ∷ entries_in n (drop field_size p)

-- whether each number of the list is below q
unfoldable pub all_below : ℕ → List ℕ → Bool
all_below q [] = true
all_below q (x ∷ xs) = ltb x q && all_below q xs

-- one check of a request: where it passes, what the further checks give; else the status
abbrev pub check : Bool → ℕ → ℕ → ℕ
check passed status further = cond passed further status

-- document 01's table: the checks in order, each with its status, for a request of size n with payload p under q queues
unfoldable pub status_of : Request → ℕ → ℕ → List ℕ → ℕ
status_of get_flags q n p = check (eqb n 0) invalid_parameter success
status_of set_flags q n p = check (eqb n field_size) invalid_parameter (check (leb (flags_in p) all_flags) invalid_parameter success)
status_of set_key q n p = check (eqb n key_length) invalid_parameter success
status_of set_mapping q n p =
    check (eqb (n % field_size) 0) invalid_parameter
    (check (is_power_of_two (n / field_size)) invalid_parameter
    (check (leb (n / field_size) max_entries) buffer_overflow
    (check (all_below q (entries_in (n / field_size) p)) invalid_parameter success)))
status_of none q n p = not_supported

-- the settings with one of them replaced whole
abbrev pub with_flags : Settings → ℕ → Settings
with_flags s flags = record { queues = s.queues; flags = flags; key = s.key; mapping = s.mapping }

abbrev pub with_key : Settings → List ℕ → Settings
with_key s key = record { queues = s.queues; flags = s.flags; key = key; mapping = s.mapping }

abbrev pub with_mapping : Settings → Mapping → Settings
with_mapping s mapping = record { queues = s.queues; flags = s.flags; key = s.key; mapping = mapping }

-- the settings after a success
unfoldable pub replaced : Request → Settings → ℕ → List ℕ → Settings
replaced get_flags s n p = s
replaced set_flags s n p = with_flags s (flags_in p)
replaced set_key s n p = with_key s (key_in p)
replaced set_mapping s n p = with_mapping s (mapping_of (entries_in (n / field_size) p))
replaced none s n p = s

-- the two kinds of an ack's payload: a status alone, and success with flags
abbrev pub status_payload : ℕ → List ℕ
status_payload status = octets_of field_size status

abbrev pub flags_payload : ℕ → List ℕ
flags_payload flags = octets_of field_size success ++ octets_of field_size flags

-- whether the ack to a request with a status has flags: only that of a successful get flags
abbrev pub carries_flags : Request → ℕ → Bool
carries_flags get_flags status = eqb status success
carries_flags set_flags status = false
carries_flags set_key status = false
carries_flags set_mapping status = false
carries_flags none status = false

-- the payload of the ack to a request: its status, and for a successful get flags what is supported, not what is set
abbrev pub ack_payload : Request → ℕ → List ℕ
ack_payload r status = cond (carries_flags r status) (flags_payload all_flags) (status_payload status)

-- the most octets of an ack, and an ack as it is handed on, with zeros behind it
abbrev pub max_ack : ℕ
max_ack = 24

abbrev pub ack_stored : List ℕ → Ack
ack_stored payload =
    record {
      octets = message ack_type payload ++ replicate (max_ack - length (message ack_type payload)) 0;
      length = length (message ack_type payload);
    }

-- what carrying out a request leaves
pub record Carried : Type 0 where
  pub settings : Settings
  pub ack : Ack

-- its ack as a list
abbrev pub ack_in : Carried → List ℕ
ack_in c = take c.ack.length c.ack.octets

-- the status that a request is acked with
abbrev pub ack_status : Carried → ℕ
ack_status c = status_in (ack_in c)

-- settings with the ack of a status alone, and with the ack of a successful get flags
abbrev pub answered : Settings → ℕ → Carried
answered s status = record { settings = s; ack = ack_stored (status_payload status) }

abbrev pub answered_flags : Settings → Carried
answered_flags s = record { settings = s; ack = ack_stored (flags_payload all_flags) }

-- settings with an ack's octets and length
abbrev pub carried_as : Settings → List ℕ → ℕ → Carried
carried_as s octets size = record { settings = s; ack = record { octets = octets; length = size } }

-- a request carried out, and a message of a type, size and kept payload
unfoldable pub carried_by : Request → Settings → ℕ → List ℕ → Carried
carried_by r s n p =
    let status = status_of r s.queues n p in
    record { settings = cond (eqb status success) (replaced r s n p) s; ack = ack_stored (ack_payload r status) }

abbrev pub carried_out : Settings → ℕ → ℕ → List ℕ → Carried
carried_out s t n p = carried_by (request_of t) s n p

-- a message carried out as it stands, whatever octets are kept behind it
abbrev pub carried_message : Settings → List ℕ → List ℕ → Carried
carried_message s m rest = carried_out s (type_in m) (size_in m) (payload_in m ++ rest)
