-- What the inner functions promise: no part of the public promise.
use Rattle.std.specs.Prelude.{◌+◌, ◌^◌, ◌<◌, slice_index_or, slice_set}
use Rattle.octets.specs.Prelude.{cond, ℕ, length, replicate}
use Rattle.steering.specs.Steering.{Choice, queue_in}
use Rattle.report.specs.Counting.{is_unhashed, Counted}
use Rattle.report.specs.declared.Tally.{Tally}

abbrev pub nothing : Tally
nothing = record { packets = 0; octets = 0 }

-- one packet more, of n octets
abbrev pub tally_with : Tally → ℕ → Tally
tally_with t n = record { packets = t.packets + 1; octets = t.octets + n }

abbrev pub nothing_on : ℕ → Counted
nothing_on queues = record { queues = replicate queues nothing; unhashed = 0; total = nothing }

-- the tally of a queue
abbrev pub tally_on : Counted → ℕ → Tally
tally_on c queue = slice_index_or c.queues queue nothing

abbrev pub with_packet : Choice → ℕ → Counted → Counted
with_packet choice n c =
    record {
      queues = slice_set c.queues (queue_in choice) (tally_with (tally_on c (queue_in choice)) n);
      unhashed = c.unhashed + cond (is_unhashed choice) 1 0;
      total = tally_with c.total n;
    }

-- a tally that one packet more of n octets does not run over
pub record TallyHasRoom (t : Tally) (n : ℕ) : Type 0 where
  pub packets : t.packets + 1 < 2 ^ 32
  pub octets : t.octets + n < 2 ^ 32

-- counts that one packet more does not run over
pub record HasRoom (choice : Choice) (n : ℕ) (c : Counted) : Type 0 where
  pub queue : queue_in choice < length c.queues
  pub tally : TallyHasRoom (tally_on c (queue_in choice)) n
  pub unhashed : c.unhashed + 1 < 2 ^ 32
  pub total : TallyHasRoom c.total n
