-- The records of a capture, one after the other behind its header. A record is a header of 16 octets and then the
-- captured octets:
--   0 seconds (4)   4 microseconds (4)   8 captured length (4)   12 original length (4)   16 captured octets
use Rattle.std.specs.Prelude.{◌≡◌, ◌∷◌, ◌++◌, ◌&&◌, ◌+◌, ◌≤◌, Option, None, Some, Result, Ok, Err}
use Rattle.octets.specs.Prelude.{List, [], Bool, cond, ℕ, zero, suc, length, take, drop, eqb, leb}
use Rattle.octets.specs.Outcome.{Outcome, value, refused}
use Rattle.capture.specs.Header.{capture_header, number_in, order_of}
use Rattle.capture.specs.declared.Order.{Order}
use Rattle.capture.specs.declared.Record.{Record}
use Rattle.capture.specs.declared.RecordWrong.{RecordWrong}

-- refusal 15: a record cut short or above 2,048 octets
abbrev pub record_wrong : ℕ
record_wrong = 15

abbrev pub record_header : ℕ
record_header = 16

abbrev pub max_record : ℕ
max_record = 2048

-- how many octets of a packet were captured, by the record's header
abbrev pub captured_length : Order → List ℕ → ℕ
captured_length o xs = number_in o 4 xs 8

-- whether octets begin with a good record: not above 2,048 octets, and not cut short
unfoldable pub begins_record : Order → List ℕ → Bool
begins_record o xs = leb (captured_length o xs) max_record && leb (record_header + captured_length o xs) (length xs)

-- the captured octets of that record, and what is behind it
abbrev pub first_record : Order → List ℕ → List ℕ
first_record o xs = take (captured_length o xs) (drop record_header xs)

abbrev pub behind_record : Order → List ℕ → List ℕ
behind_record o xs = drop (record_header + captured_length o xs) xs

-- what stands at a place of a capture: no octet, or a record's captured octets from a place to another; else refusal 15
pub data Next : Type 0 where
  no_more : Next
  between : ℕ → ℕ → Next

unfoldable pub step_in : Order → List ℕ → ℕ → Outcome Next
step_in o xs at =
    cond (eqb (length xs) 0) (value no_more)
    (cond (begins_record o xs) (value (between (at + record_header) (at + record_header + captured_length o xs))) (refused record_wrong))

abbrev pub step_at : List ℕ → ℕ → Outcome Next
step_at capture at = step_in (order_of capture) (drop at capture) at

-- the values, or the number of the refusal
abbrev pub step_outcome_of : Option (Result Record RecordWrong) → Outcome Next
step_outcome_of None = value no_more
step_outcome_of (Some (Ok r)) = value (between r.start r.end)
step_outcome_of (Some (Err e)) = refused record_wrong

-- octets as the good records that they begin with, and what is left behind those
pub record Fall : Type 0 where
  pub records : List (List ℕ)
  pub left : List ℕ

abbrev pub no_record : List ℕ → Fall
no_record xs = record { records = []; left = xs }

abbrev pub one_more : List ℕ → Fall → Fall
one_more r f = record { records = r ∷ f.records; left = f.left }

-- with at most n records; and with all of them: no record has no octets, so there are no more than octets
unfoldable pub fall_within : ℕ → Order → List ℕ → Fall
fall_within zero o xs = no_record xs
fall_within (suc n) o xs =
    cond (begins_record o xs) (one_more (first_record o xs) (fall_within n o (behind_record o xs))) (no_record xs)

abbrev pub fall_of : Order → List ℕ → Fall
fall_of o xs = fall_within (length xs) o xs

-- the captured octets of each record of a capture with a good header; refusal 15 unless nothing is left behind them
abbrev pub all_of : Fall → Outcome (List (List ℕ))
all_of f = cond (eqb (length f.left) 0) (value f.records) (refused record_wrong)

abbrev pub records_outcome : List ℕ → Outcome (List (List ℕ))
records_outcome capture = all_of (fall_of (order_of capture) (drop capture_header capture))

-- octets that are records one after the other: each has a header of 16 octets that gives its length, whatever its times and
-- its original length, and then its octets, at most 2,048
pub data Holds : Order → List (List ℕ) → List ℕ → Type 0 where
  holds_none : (o : Order) → Holds o [] []
  holds_more : (o : Order) (header r : List ℕ) (rs : List (List ℕ)) (xs : List ℕ)
      → length header ≡ record_header → captured_length o header ≡ length r → length r ≤ max_record → Holds o rs xs
      → Holds o (r ∷ rs) (header ++ (r ++ xs))

-- the captured octets of records together
unfoldable pub captured_octets : List (List ℕ) → ℕ
captured_octets [] = 0
captured_octets (r ∷ rs) = length r + captured_octets rs
