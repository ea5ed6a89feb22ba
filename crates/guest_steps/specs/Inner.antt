-- What the inner functions promise: no part of the public promise.
use Rattle.std.specs.Prelude.{◌^◌, ◌<◌, Option, Some, None, Result, Ok, Err}
use Rattle.octets.specs.Prelude.{ℕ}
use Rattle.octets.specs.Outcome.{Outcome, value, refused, outcome_of}
use Rattle.guest_messages.specs.Refusals.{not_an_ack}
use Rattle.guest_messages.specs.Reader.{reading_in}
use Rattle.guest_messages.specs.declared.AckRead.{AckRead}
use Rattle.guest_messages.specs.declared.NotAnAck.{NotAnAck}
use Rattle.guest_steps.specs.Guest.{GuestState, refusal_number}
use Rattle.guest_steps.specs.Calls.{Found, Seen, part, judged}
use Rattle.guest_steps.specs.declared.Counts.{Counts}
use Rattle.guest_steps.specs.declared.Refusal.{Refusal}

-- both own counts are 32-bit counts, as on the page
abbrev pub CountsFit : GuestState → Type 0
CountsFit g = (g.req_prod < 2 ^ 32) × (g.rsp_cons < 2 ^ 32)

-- what is found on the page, and what is known of an ack, by what the functions answer
abbrev pub finding_of : Result Counts Refusal → Outcome Found
finding_of (Ok counts) = value (record { room = counts.room; unread = counts.unread })
finding_of (Err r) = refused (refusal_number r)

abbrev pub readiness_of : Result ℕ Refusal → Outcome ℕ
readiness_of r = outcome_of refusal_number r

abbrev pub sight_of : Result (Option AckRead) NotAnAck → Seen
sight_of (Ok None) = part
sight_of (Ok (Some ack)) = judged (value (reading_in ack))
sight_of (Err _) = judged (refused not_an_ack)
