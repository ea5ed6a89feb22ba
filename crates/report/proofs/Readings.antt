-- What is read of a capture at one turn, and what it adds to the counts.
use Rattle.std.specs.Prelude.{None, Some, Ok, Err, Result}
use Rattle.octets.specs.Prelude.{◌≡◌, sym, ap, ◌∙◌, List, ℕ, ◌-◌, ◌≤◌, ◌<◌, arith, length, take, drop, length-drop, length-take-le}
use Rattle.octets.specs.Outcome.{value, refused}
use Rattle.messages.specs.Settings.{Settings, Good}
use Rattle.steering.specs.Steering.{queue_in}
use Rattle.interface.proofs.Queues.{good-queue}
use Rattle.capture.specs.Header.{capture_header, order_of}
use Rattle.capture.specs.Records.{record_wrong, Fall, one_more, fall_of}
use Rattle.capture.specs.Reading.{Reads}
use Rattle.capture.specs.Packets.{ip_part}
use Rattle.capture.specs.declared.Link.{Link}
use Rattle.capture.specs.declared.Record.{Record}
use Rattle.capture.specs.declared.RecordWrong.{RecordWrong}
use Rattle.capture.specs.declared.reader.Reader.{Reader}
use Rattle.capture.proofs.Found.{IsRecord, found-record, found-end, found-bad}
use Rattle.capture.proofs.Theorems.{records-fill}
use Rattle.report.specs.Counting.{choice_for, Counted}
use Rattle.report.specs.Inner.{with_packet, HasRoom}
use Rattle.report.specs.Reports.{max_file, report_over}
use Rattle.report.proofs.Orders.{bad-records, good-records}
use Rattle.report.proofs.Counters.{Counting, counting-room, counting-next, counting-bad, counting-all, counting-done}

-- the records of a capture from a place on, and all of them
abbrev pub rest_of : List ℕ → ℕ → Fall
rest_of xs at = fall_of (order_of xs) (drop at xs)

abbrev pub whole_of : List ℕ → Fall
whole_of xs = rest_of xs capture_header

module _ (s : Settings) (link : Link) (xs : List ℕ) {it next : Reader} (same : it.capture.now ≡ xs) {c : Counted}
    (so : Counting s link (whole_of xs) (rest_of xs it.at) c)
  where
    -- a record
    module _ {x : Result Record RecordWrong} {r : Record} (reads : Reads it (Some x) next) (is : x ≡ Ok r) where
      pub found : IsRecord xs it.at r.start r.end
      found = found-record xs it.at r.start r.end (sym (rw (same, is) at reads.step))

      pub after : next.at ≡ r.end
      after = rw is at reads.place

      abbrev frame : List ℕ
      frame = take (r.end - r.start) (drop r.start xs)

      pub size : length frame ≡ r.end - r.start
      size = let f = found in length-take-le (r.end - r.start) (drop r.start xs) (omega (arith, length-drop r.start xs, f.inside))

      module _ (good : Good s) where
        below : queue_in (choice_for s link frame) < s.queues
        below = good-queue s (ip_part link frame) good

        counting : Counting s link (whole_of xs) (one_more frame (rest_of xs r.end)) c
        counting = rw found.fall at so

        pub room : length xs ≤ max_file → HasRoom (choice_for s link frame) (length frame) c
        room small =
            counting-room s link (whole_of xs) (rest_of xs r.end) frame below counting
            (omega (arith, records-fill (order_of xs) (drop capture_header xs), length-drop capture_header xs))

        pub counted : Counting s link (whole_of xs) (rest_of xs next.at) (with_packet (choice_for s link frame) (length frame) c)
        counted = rw after (counting-next s link (whole_of xs) (rest_of xs r.end) frame below counting)

    -- a record that is wrong
    pub refused-here : {x : Result Record RecordWrong} {e : RecordWrong} → Reads it (Some x) next → x ≡ Err e
        → refused record_wrong ≡ report_over s link xs
    refused-here reads is =
        bad-records s link xs (counting-bad so record_wrong (found-bad xs it.at record_wrong (sym (rw (same, is) at reads.step))))

    -- no octet
    pub counted-all : Reads it None next → value c ≡ report_over s link xs
    counted-all reads =
        let all = rw (found-end xs it.at (sym (rw same at reads.step))) at so in
        ap value (counting-done all) ∙ good-records s link xs (whole_of xs).records (counting-all all)
