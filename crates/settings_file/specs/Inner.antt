-- What the inner functions promise: no part of the public promise.
use Rattle.std.specs.Prelude.{◌≡◌, ◌≤◌, ◌<◌, Result, Ok, Err}
use Rattle.octets.specs.Prelude.{List, ℕ, length, take}
use Rattle.octets.specs.Outcome.{Outcome, value, refused}
use Rattle.messages.specs.Wire.{max_payload}
use Rattle.messages.specs.Settings.{Settings}
use Rattle.settings_file.specs.Loading.{settings_refusal_number, settings_from}
use Rattle.settings_file.specs.declared.SettingsRefusal.{SettingsRefusal}

-- the settings left, unless there is a refusal
abbrev pub left_outcome : Result Unit SettingsRefusal → Settings → Outcome Settings
left_outcome (Ok u) left = value left
left_outcome (Err e) left = refused (settings_refusal_number e)

-- the first message of some octets carried out: what is behind it goes on from the settings that it leaves
pub record GoesOn (s : Settings) (xs : List ℕ) (left : Settings) (behind : List ℕ) : Type 0 where
  pub fewer : length behind < length xs
  pub same : settings_from s xs ≡ settings_from left behind

-- what is kept of a payload: 1,024 octets, which begin with the payload unless it is longer
pub record Keeps (payload kept : List ℕ) : Type 0 where
  pub size : length kept ≡ max_payload
  pub begins : length payload ≤ max_payload → take (length payload) kept ≡ payload
