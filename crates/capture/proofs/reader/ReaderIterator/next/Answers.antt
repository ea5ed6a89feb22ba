-- `next` of a `Reader` meets its contract: whatever it gives, fewer octets are left.
use Rattle.std.proofs.Common.{rules}
use Rattle.capture.proofs.Progress.{reads-less}
use Rattle.capture.proofs.reader.ReaderIterator.next.Goals as goal

pub returns-in-Some-Ok-clause-goes : goal.returns-in-Some-Ok-clause-goes
returns-in-Some-Ok-clause-goes c = reads-less _ _ _ (search rules)

pub returns-in-Some-Err-clause-goes : goal.returns-in-Some-Err-clause-goes
returns-in-Some-Err-clause-goes c = reads-less _ _ _ (search rules)
