-- What is counted of the records of a capture, under the settings of an interface.
use Rattle.std.specs.Prelude.{◌∷◌, ◌+◌}
use Rattle.octets.specs.Prelude.{List, [], Bool, true, false, cond, ℕ, zero, suc, length, eqb}
use Rattle.messages.specs.Settings.{Settings}
use Rattle.steering.specs.Steering.{Choice, unhashed, hashed, queue_in}
use Rattle.interface.specs.States.{steered_by}
use Rattle.capture.specs.Records.{captured_octets}
use Rattle.capture.specs.Packets.{ip_part}
use Rattle.capture.specs.declared.Link.{Link}
use Rattle.report.specs.declared.Tally.{Tally}

-- what one line counts: packets, and their captured octets
abbrev pub tally_of : List (List ℕ) → Tally
tally_of rs = record { packets = length rs; octets = captured_octets rs }

-- the records that pass a test
unfoldable pub those : (List ℕ → Bool) → List (List ℕ) → List (List ℕ)
those test [] = []
those test (r ∷ rs) = cond (test r) (r ∷ those test rs) (those test rs)

-- the choice for a record: that of the one packet question for its IP packet; where it holds none, there is no type
abbrev pub choice_for : Settings → Link → List ℕ → Choice
choice_for s link r = steered_by s (ip_part link r)

abbrev pub is_unhashed : Choice → Bool
is_unhashed (unhashed queue) = true
is_unhashed (hashed t hash queue) = false

abbrev pub unhashed_of : Settings → Link → List (List ℕ) → List (List ℕ)
unhashed_of s link rs = those (λ (r : List ℕ). is_unhashed (choice_for s link r)) rs

-- the records on a queue, those without a hash too
abbrev pub on_queue : Settings → Link → ℕ → List (List ℕ) → List (List ℕ)
on_queue s link k rs = those (λ (r : List ℕ). eqb (queue_in (choice_for s link r)) k) rs

-- f 0, f 1, .. f (n - 1)
unfoldable pub rising : {A : Type 0} → ℕ → (ℕ → A) → List A
rising zero f = []
rising (suc n) f = f 0 ∷ rising n (λ (k : ℕ). f (suc k))

-- the report on records: a tally for each queue rising, how many are unhashed, and the total
pub record Counted : Type 0 where
  pub queues : List Tally
  pub unhashed : ℕ
  pub total : Tally

unfoldable pub counted_over : Settings → Link → List (List ℕ) → Counted
counted_over s link rs =
    record {
      queues = rising s.queues (λ (k : ℕ). tally_of (on_queue s link k rs));
      unhashed = length (unhashed_of s link rs);
      total = tally_of rs;
    }

-- tallies added up
unfoldable pub sum_of : List Tally → Tally
sum_of [] = record { packets = 0; octets = 0 }
sum_of (t ∷ ts) = record { packets = t.packets + (sum_of ts).packets; octets = t.octets + (sum_of ts).octets }
