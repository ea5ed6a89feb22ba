-- What a start answers, and leaves.
use Rattle.std.specs.Prelude.{Result, Ok, Err}
use Rattle.octets.specs.Prelude.{List, ℕ}
use Rattle.guest_messages.specs.Refusals.{write_refusal_number}
use Rattle.guest_steps.specs.Guest.{GuestState, Told, number, refusal_number, told_by}
use Rattle.guest_steps.specs.Calls.{After}
use Rattle.guest_steps.specs.declared.Progress.{Progress}
use Rattle.frontend.specs.declared.starting.StartRefusal.{StartRefusal}
use Rattle.frontend.specs.declared.starting.StartRefusal.TheVariants.{Call, Request}

-- the number that each refusal of a start stands for
abbrev pub start_refusal_number : StartRefusal → ℕ
start_refusal_number (Call r) = refusal_number r
start_refusal_number (Request r) = write_refusal_number r

-- the number of each answer, and what a start answered and left
abbrev pub start_told_of : Result Progress StartRefusal → Told
start_told_of (Ok p) = told_by p
start_told_of (Err r) = number (start_refusal_number r)

abbrev pub started : Result Progress StartRefusal → GuestState → List ℕ → After
started r g page = record { answer = start_told_of r; state = g; page = page }
