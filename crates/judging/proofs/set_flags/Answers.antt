-- `judging::set_flags` meets its contract: the tests on the way to each return pick the row of the table.
use Rattle.octets.specs.Prelude.{◌<◌, arith}
use Rattle.messages.specs.Wire.{all_flags}
use Rattle.messages.specs.Settings.{settings_of}
use Rattle.messages.specs.Requests.{set_flags}
use Rattle.messages.proofs.Statuses.{set-flags-size, set-flags-value, set-flags-done}
use Rattle.messages.proofs.Effects.{carried-refused, flags-set}
use Rattle.judging.proofs.set_flags.Goals as goal

pub returns-then-size-ne-FIELD_SIZE : goal.returns-then-size-ne-FIELD_SIZE
returns-then-size-ne-FIELD_SIZE c q key entries count = carried-refused set_flags _ _ _ 1 (set-flags-size _ _ _ c.if-size-ne-FIELD_SIZE.true)

pub returns-then-value : goal.returns-then-value
returns-then-value c q key entries count =
    let high : all_flags < c.read_u64-value.result = omega (arith, c.if-value.true) in
    carried-refused set_flags _ _ _ 1 (set-flags-value _ _ _ c.if-size-ne-FIELD_SIZE.false (rw c.read_u64-value.ensures at high))

pub returns : goal.returns
returns c q key entries count =
    let value = c.read_u64-value.ensures in
    let held = settings_of q c.args.flags.now key entries count in
    flags-set held _ _ _ value (set-flags-done _ _ _ c.if-size-ne-FIELD_SIZE.false (rw value at c.if-value.false))
