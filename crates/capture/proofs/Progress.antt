-- A reader comes to an end: whatever it reads, fewer octets are left.
use Rattle.std.specs.Prelude.{Option, None, Some, Result, Ok, Err, ⊤}
use Rattle.std.specs.Iterator.{MakesProgress, at_most}
use Rattle.octets.specs.Prelude.{sym, ◌<◌, arith}
use Rattle.capture.specs.Reading.{Reads, octets_left}
use Rattle.capture.specs.Records.{record_wrong}
use Rattle.capture.specs.declared.Record.{Record}
use Rattle.capture.specs.declared.RecordWrong.{RecordWrong}
use Rattle.capture.specs.declared.reader.Reader.{Reader}
use Rattle.capture.proofs.Found.{found-record, found-some}

pub reads-less : (s : Reader) (gives : Option (Result Record RecordWrong)) (t : Reader) → Reads s gives t
    → MakesProgress (λ _. ⊤) (λ (r : Reader). at_most (octets_left r)) s gives t
reads-less s None t reads = record { on = λ _. tt; keeps = tt; rests = λ _. tt }
reads-less s (Some (Ok r)) t reads =
    let f = found-record s.capture.now s.at r.start r.end (sym reads.step) in
    let less : octets_left t < octets_left s = rw (reads.same, reads.place) (omega (arith, f.start, f.forward, f.inside)) in
    record { on = λ _. (tt, tt, less); keeps = tt; rests = λ _. tt }
reads-less s (Some (Err e)) t reads =
    let some = found-some s.capture.now s.at record_wrong (sym reads.step) in
    let less : octets_left t < octets_left s = rw (reads.same, reads.place) (omega (arith, some)) in
    record { on = λ _. (tt, tt, less); keeps = tt; rests = λ _. tt }
