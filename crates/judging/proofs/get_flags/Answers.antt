-- `judging::get_flags` meets its contract: the test picks the row of the table.
use Rattle.messages.specs.Requests.{get_flags}
use Rattle.messages.proofs.Statuses.{get-flags-size, get-flags-done}
use Rattle.messages.proofs.Effects.{carried-refused, carried-flags}
use Rattle.judging.proofs.get_flags.Goals as goal

pub returns-then-size-ne0 : goal.returns-then-size-ne0
returns-then-size-ne0 c s p = carried-refused get_flags s _ p 1 (get-flags-size _ _ _ c.if-size-ne0.true)

pub returns : goal.returns
returns c s p = carried-flags s _ p (get-flags-done _ _ _ c.if-size-ne0.false)
