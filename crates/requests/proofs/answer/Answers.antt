-- `requests::answer` meets its contract: only a get flags that succeeded is acked with flags.
use Rattle.messages.specs.Requests.{request_of}
use Rattle.messages.proofs.Types.{no-flags}
use Rattle.requests.proofs.answer.Goals as goal

pub returns-in-Ok : goal.returns-in-Ok
unfolding request_of
returns-in-Ok c = rw (c.in-Ok.is, c.if-kind-eq-GET_FLAGS.true) c.with_flags.ensures

pub returns-in-Ok-2 : goal.returns-in-Ok-2
returns-in-Ok-2 c = rw (c.in-Ok-2.is, no-flags _ _ c.if-kind-eq-GET_FLAGS.false) c.with_status.ensures
