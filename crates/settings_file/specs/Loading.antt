-- The settings file: one octet for the queue count, then request messages, each carried out as the host does.
use Rattle.std.specs.Prelude.{◌∷◌, ◌&&◌, Result, Ok, Err}
use Rattle.octets.specs.Prelude.{List, [], Bool, true, cond, ℕ, length, eqb}
use Rattle.octets.specs.Outcome.{Outcome, value, refused, and_then}
use Rattle.messages.specs.Wire.{success}
use Rattle.messages.specs.Requests.{ack_status, carried_message}
use Rattle.messages.specs.Settings.{Settings}
use Rattle.interface.specs.States.{HostState, queues_wrong, settings_in, set_up_outcome}
use Rattle.interface.specs.declared.Interface.{Interface}
use Rattle.backend.specs.Streams.{messages_in, rest_of, settings_after}
use Rattle.settings_file.specs.declared.SettingsRefusal.{SettingsRefusal}
use Rattle.settings_file.specs.declared.SettingsRefusal.TheVariants.{QueueCount, Message}

-- refusal 22: a settings message cut short or acked with a nonzero status
abbrev pub settings_wrong : ℕ
settings_wrong = 22

-- whether each message, carried out in order, is acked with success
unfoldable pub all_succeed : Settings → List (List ℕ) → Bool
all_succeed s [] = true
all_succeed s (m ∷ ms) = eqb (ack_status (carried_message s m [])) success && all_succeed (carried_message s m []).settings ms

-- the settings that messages leave: no message is cut short, so nothing is left behind the last, and each succeeds
unfoldable pub settings_from : Settings → List ℕ → Outcome Settings
settings_from s xs =
    cond (eqb (length (rest_of xs)) 0 && all_succeed s (messages_in xs)) (value (settings_after s (messages_in xs))) (refused settings_wrong)

-- the settings of a file: refusal 6 for a bad or missing queue count, then 22
unfoldable pub settings_outcome : List ℕ → Outcome Settings
settings_outcome [] = refused queues_wrong
settings_outcome (queues ∷ xs) = and_then (set_up_outcome queues) (λ (i : HostState). settings_from i.settings xs)

-- the number that each refusal stands for, and what an answer says
abbrev pub settings_refusal_number : SettingsRefusal → ℕ
settings_refusal_number QueueCount = queues_wrong
settings_refusal_number Message = settings_wrong

abbrev pub settings_outcome_of : Result Interface SettingsRefusal → Outcome Settings
settings_outcome_of (Ok i) = value (settings_in i)
settings_outcome_of (Err e) = refused (settings_refusal_number e)
