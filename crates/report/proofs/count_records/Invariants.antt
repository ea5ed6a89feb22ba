-- The loop of `report::count_records`: at each place the counts, with what the records from there on come to, are what all
-- records come to.
use Rattle.octets.specs.Prelude.{◌≡◌, drop}
use Rattle.capture.specs.Header.{capture_header, order_of}
use Rattle.capture.specs.Records.{fall_of}
use Rattle.interface.specs.States.{settings_in}
use Rattle.report.specs.Reports.{counted_of}
use Rattle.report.proofs.Counters.{Counting}
use Rattle.report.proofs.count_records.Given as goal

abbrev pub invariant-loop-record : goal.invariant-loop-record
invariant-loop-record l = record {
  can_next : (goal.iterator-loop-record).can_next l.record-iterator;
  ends : (goal.iterator-loop-record).is_finite l.record-iterator;
  same : l.record-iterator.capture.now ≡ l.captured;
  count : l.counts.count ≡ l.interface.queues;
  counting : Counting (settings_in l.interface) l.link (fall_of (order_of l.captured) (drop capture_header l.captured))
      (fall_of (order_of l.captured) (drop l.record-iterator.at l.captured)) (counted_of l.counts);
}
