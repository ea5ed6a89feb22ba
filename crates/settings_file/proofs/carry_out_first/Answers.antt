-- `settings_file::carry_out_first` meets its contract: a message that is cut short or not acked with success is refused.
use Rattle.octets.specs.Prelude.{refl, arith, length, lt-leb}
use Rattle.ring.specs.Reading.{message_length}
use Rattle.settings_file.proofs.Loads.{from_cut}
use Rattle.settings_file.proofs.Firsts.{first-cut, good-left, first-refused, first-done}
use Rattle.settings_file.proofs.carry_out_first.Goals as goal

pub returns-in_default-clause-wrong : goal.returns-in_default-clause-wrong
returns-in_default-clause-wrong c =
    let xs = c.args.octets.now in
    from_cut _ xs c.requires.1 (lt-leb (message_length xs) (length xs) (omega (arith, c.in_default.ensures.cases)))

pub returns-in_default-split_at_checked-clause-wrong : goal.returns-in_default-split_at_checked-clause-wrong
returns-in_default-split_at_checked-clause-wrong c =
    let parts = c.in-Some.ensures.cases in
    first-cut c.args.octets.now _ c.in-Some.rest.now _ parts.0 parts.1 c.read_u32-size.ensures _ c.requires.1 c.in_default-split_at_checked.ensures.cases

pub returns-then-read_u64-clause-good : goal.returns-then-read_u64-clause-good
returns-then-read_u64-clause-good c =
    let xs = c.args.octets.now in
    let rest = c.in-Some.rest.now in
    let parts = c.in-Some.ensures.cases in
    let split = c.in-Some-split_at_checked.ensures.cases in
    let kept = rw split.1 at c.keep.ensures in
    good-left xs _ rest _ parts.0 parts.1 c.read_u32-size.ensures _ (omega (arith, parts.2)) split.0 refl kept
    c.requires.0 _ (c.carry_out.ensures (omega (arith, c.requires.0.queues)))

pub returns-then-read_u64-clause-wrong : goal.returns-then-read_u64-clause-wrong
returns-then-read_u64-clause-wrong c =
    let xs = c.args.octets.now in
    let rest = c.in-Some.rest.now in
    let parts = c.in-Some.ensures.cases in
    let split = c.in-Some-split_at_checked.ensures.cases in
    let kept = rw split.1 at c.keep.ensures in
    first-refused xs _ rest _ parts.0 parts.1 c.read_u32-size.ensures _ (omega (arith, parts.2)) split.0 refl kept
    c.requires.0 _ (c.carry_out.ensures (omega (arith, c.requires.0.queues))) (rw c.read_u64.ensures at c.if-read_u64.true)

pub returns-clause-good : goal.returns-clause-good
returns-clause-good c =
    let xs = c.args.octets.now in
    let rest = c.in-Some.rest.now in
    let parts = c.in-Some.ensures.cases in
    let split = c.in-Some-split_at_checked.ensures.cases in
    let kept = rw split.1 at c.keep.ensures in
    good-left xs _ rest _ parts.0 parts.1 c.read_u32-size.ensures _ (omega (arith, parts.2)) split.0 refl kept
    c.requires.0 _ (c.carry_out.ensures (omega (arith, c.requires.0.queues)))

pub returns-clause-next : goal.returns-clause-next
returns-clause-next c =
    let xs = c.args.octets.now in
    let rest = c.in-Some.rest.now in
    let parts = c.in-Some.ensures.cases in
    let split = c.in-Some-split_at_checked.ensures.cases in
    let kept = rw split.1 at c.keep.ensures in
    rw split.2 (first-done xs _ rest _ parts.0 parts.1 c.read_u32-size.ensures _ (omega (arith, parts.2))
    split.0 refl kept c.requires.0 _ (c.carry_out.ensures (omega (arith, c.requires.0.queues))) (rw c.read_u64.ensures at c.if-read_u64.false))
