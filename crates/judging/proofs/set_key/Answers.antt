-- `judging::set_key` meets its contract: the test picks the row of the table, and the key is the copied part.
use Rattle.messages.specs.Settings.{settings_of}
use Rattle.messages.specs.Requests.{set_key}
use Rattle.messages.proofs.Statuses.{set-key-size, set-key-done}
use Rattle.messages.proofs.Effects.{carried-refused, key_set}
use Rattle.judging.proofs.set_key.Goals as goal

pub returns-then-size-ne-KEY_SIZE : goal.returns-then-size-ne-KEY_SIZE
returns-then-size-ne-KEY_SIZE c q flags entries count = carried-refused set_key _ _ _ 1 (set-key-size _ _ _ c.if-size-ne-KEY_SIZE.true)

pub returns : goal.returns
returns c q flags entries count =
    let held = settings_of q flags c.args.key.now entries count in
    key_set held _ _ _ c.copy_from_slice.ensures.after (set-key-done _ _ _ c.if-size-ne-KEY_SIZE.false)
