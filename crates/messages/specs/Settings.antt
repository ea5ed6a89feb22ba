-- The settings of an interface: what they are at setup, and what holds of them from then on.
use Rattle.std.specs.Prelude.{◌≡◌, ◌∷◌, ◌++◌, ◌&&◌, ◌-◌, ◌^◌, ◌≤◌, ◌<◌}
use Rattle.octets.specs.Prelude.{List, [], Bool, true, false, cond, ℕ, zero, suc}
use Rattle.octets.specs.Prelude.{length, get_or, take, replicate, eqb, leb}
use Rattle.toeplitz.specs.Hash.{key_length}
use Rattle.messages.specs.Wire.{all_flags}
use Rattle.messages.specs.declared.Mapping.{Mapping}

-- the most queues in operation, and the most entries of a mapping
abbrev pub max_queues : ℕ
max_queues = 64

abbrev pub max_entries : ℕ
max_entries = 128

-- whether n is 2 ^ k for a k below b; and for any k, which is below 2 ^ k
unfoldable pub is_power_below : ℕ → ℕ → Bool
is_power_below zero n = false
is_power_below (suc b) n = cond (eqb n (2 ^ b)) true (is_power_below b n)

unfoldable pub is_power_of_two : ℕ → Bool
is_power_of_two n = is_power_below n n

-- document 01's listed mapping lengths: 1, 2, 4, .. 128
unfoldable pub is_listed : ℕ → Bool
is_listed n = is_power_of_two n && leb n max_entries

-- each number of the list is below q
abbrev pub EachBelow : ℕ → List ℕ → Type 0
EachBelow q xs = (i : ℕ) → i < length xs → get_or xs i 0 < q

-- the settings of an interface. The queue count is the host's; the guest's requests replace the others
pub record Settings : Type 0 where
  pub queues : ℕ
  pub flags : ℕ
  pub key : List ℕ
  pub mapping : Mapping

-- the table of a mapping, a list of queues; and the mapping that holds a table, with zeros behind it
abbrev pub table_of : Mapping → List ℕ
table_of m = take m.count m.entries

abbrev pub mapping_of : List ℕ → Mapping
mapping_of table = record { entries = table ++ replicate (max_entries - length table) 0; count = length table }

-- settings by their parts: queues, flags, key, entries and count
abbrev pub settings_of : ℕ → ℕ → List ℕ → List ℕ → ℕ → Settings
settings_of queues flags key entries count =
    record { queues = queues; flags = flags; key = key; mapping = record { entries = entries; count = count } }

-- at setup: flags 0, key all zero, mapping of one entry, 0
abbrev pub settings_at_setup : ℕ → Settings
settings_at_setup queues =
    record { queues = queues; flags = 0; key = replicate key_length 0; mapping = mapping_of (0 ∷ []) }

-- a good mapping under q queues: a listed number of entries, each below q
pub record GoodMapping (q : ℕ) (m : Mapping) : Type 0 where
  pub size : length m.entries ≡ max_entries
  pub listed : is_listed m.count ≡ true
  pub below : EachBelow q (table_of m)

-- good settings: what holds from setup on
pub record Good (s : Settings) : Type 0 where
  pub some-queue : 1 ≤ s.queues
  pub queues : s.queues ≤ max_queues
  pub flags : s.flags ≤ all_flags
  pub key : length s.key ≡ key_length
  pub mapping : GoodMapping s.queues s.mapping
