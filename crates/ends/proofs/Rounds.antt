-- Rounds of a request under way: one in which the rest of it is written, and the last, in which it is answered.
use Rattle.octets.specs.Prelude.{◌≡◌, List, [], ℕ, ◌+◌, ◌-◌, ◌≤◌, ◌<◌, arith, length}
use Rattle.messages.specs.Requests.{carried_message}
use Rattle.page.specs.Page.{area_size}
use Rattle.ring.specs.Reading.{message_length}
use Rattle.interface.specs.States.{Good as GoodHost}
use Rattle.backend.proofs.Goodness.{good-event as good-host-event}
use Rattle.guest_steps.specs.Guest.{number, acked, pending, Good as GoodGuest}
use Rattle.frontend.proofs.Goodness.{good-event}
use Rattle.ends.specs.Ends.{Ends, host_turn, round, told_in, answer_of, Agree}
use Rattle.ends.proofs.Points.{Sent}
use Rattle.ends.proofs.Writing.{writes-on, told-pending}
use Rattle.ends.proofs.Hosting.{reads_on, carries-out}
use Rattle.ends.proofs.Collecting.{told-answer, agrees}

-- ends that are both good stay so
pub record GoodEnds (e : Ends) : Type 0 where
  pub guest : GoodGuest e.guest
  pub host : GoodHost e.host

pub good_round : (e : Ends) → GoodEnds e → GoodEnds (round e)
unfolding round
good_round e good =
    record { guest = good-event e.guest (host_turn e).page good.guest; host = good-host-event e.host e.page good.host }

module _ (m : List ℕ) (r n : ℕ) (e : Ends) (sent : Sent m r n e) (long : length m ≡ message_length m) (first : r < length m) where
  module _ (more : r ≤ n) (few : n - r ≤ area_size) where
    -- the rest fits into the area
    pub middle-round : n < length m → length m ≤ n + area_size
        → (told_in e ≡ number pending) × Sent m n (length m) (round e) × ((round e).host.settings ≡ e.host.settings)
    unfolding round told_in
    middle-round part rest =
        let x = reads_on m r n e sent long first more (omega arith) few part in (
          told-pending m n (length m) (host_turn e) x.0 (omega arith) (omega arith) part (omega arith),
          writes-on m n (length m) (host_turn e) x.0 (omega arith) (omega arith) part,
          x.1,
        )

    -- the octets in the area are the last
    pub last-round : n ≡ length m → GoodEnds e
        → (told_in e ≡ acked (answer_of e.host.settings m))
        × ((round e).host.settings ≡ (carried_message e.host.settings m []).settings)
        × Agree (round e)
    unfolding round told_in
    last-round all good =
        let x = carries-out m r n e sent long first more (omega arith) few all in
        let after = good_round e good in (
          told-answer e.host.settings m (host_turn e) long x.0,
          x.1,
          agrees e.host.settings m (host_turn e) long x.0 after.guest after.host,
        )
