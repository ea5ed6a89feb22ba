-- How a call of the guest's end tells by number what it answers, and what it leaves.
use Rattle.std.specs.Prelude.{◌≡◌}
use Rattle.octets.specs.Prelude.{List, ℕ}
use Rattle.guest_steps.specs.Guest.{GuestState, Told, number, acked, told_number}
use Rattle.guest_steps.specs.Calls as guest
use Rattle.by_number.specs.Answers.{status_told, flags_told}

-- of what a call of the guest's end tells: the status, and the flags, where an ack says them
abbrev pub status_of_told : Told → ℕ → ℕ
status_of_told (number k) before = before
status_of_told (acked r) before = status_told r before

abbrev pub flags_of_told : Told → ℕ → ℕ
flags_of_told (number k) before = before
flags_of_told (acked r) before = flags_told r before

-- a call of the guest's end, by what it answers and leaves: the number r, the guest and the octets of the page
pub record Leaves (a : guest.After) (r : ℕ) (g : GuestState) (page : List ℕ) : Type 0 where
  pub answer : r ≡ told_number a.answer
  pub state : g ≡ a.state
  pub octets : page ≡ a.page
