-- What the private functions promise each other. Nothing here is needed to read the promises of the public calls.
use Rattle.std.specs.Prelude.{Result, ◌≡◌}
use Rattle.octets.specs.Prelude.{List, ℕ}
use Rattle.messages.specs.Settings.{Settings, settings_of}
use Rattle.messages.specs.Requests.{Request, get_flags, set_flags, set_key, set_mapping, status_told, ack_payload, ack_stored, carried_by}
use Rattle.messages.specs.declared.Refusal.{Refusal}

-- a request of size n with payload p is carried out or refused with this status and leaves these settings: with the ack of the
-- status they are what carrying it out gives
abbrev pub Leaves : Request → Settings → ℕ → List ℕ → ℕ → Settings → Type 0
Leaves r s n p status left = record { settings = left; ack = ack_stored (ack_payload r status) } ≡ carried_by r s n p

-- the same of each request by the setting that it may replace: whatever the others are, they stay
abbrev pub GetsFlags : ℕ → Result Unit Refusal → Type 0
GetsFlags n r = (s : Settings) (p : List ℕ) → Leaves get_flags s n p (status_told r) s

abbrev pub SetsFlags : ℕ → List ℕ → ℕ → Result Unit Refusal → ℕ → Type 0
SetsFlags n p flags r left =
    (q : ℕ) (key entries : List ℕ) (count : ℕ)
    → Leaves set_flags (settings_of q flags key entries count) n p (status_told r) (settings_of q left key entries count)

abbrev pub SetsKey : ℕ → List ℕ → List ℕ → Result Unit Refusal → List ℕ → Type 0
SetsKey n p key r left =
    (q flags : ℕ) (entries : List ℕ) (count : ℕ)
    → Leaves set_key (settings_of q flags key entries count) n p (status_told r) (settings_of q flags left entries count)

abbrev pub SetsMapping : ℕ → ℕ → List ℕ → List ℕ → ℕ → Result Unit Refusal → List ℕ → ℕ → Type 0
SetsMapping q n p entries count r left_entries left_count =
    (flags : ℕ) (key : List ℕ)
    → Leaves set_mapping (settings_of q flags key entries count) n p (status_told r) (settings_of q flags key left_entries left_count)
