-- `judging::set_mapping` meets its contract: the tests on the way to each return pick the row of the table.
use Rattle.octets.specs.Prelude.{◌≡◌, sym, ◌∙◌, true, ◌/◌, arith}
use Rattle.messages.specs.Wire.{field_size}
use Rattle.messages.specs.Settings.{is_power_of_two, settings_of}
use Rattle.messages.specs.Requests.{set_mapping, entries_in, all_below}
use Rattle.messages.proofs.Statuses.{set-mapping-remainder, set-mapping-power, set-mapping-many, set-mapping-entry, set-mapping-done}
use Rattle.messages.proofs.Tables.{below-octets}
use Rattle.messages.proofs.Effects.{carried-refused, mapping-set}
use Rattle.std.proofs.Common.{rules}
use Rattle.judging.proofs.set_mapping.Goals as goal

pub returns-then-size-ne0 : goal.returns-then-size-ne0
returns-then-size-ne0 c flags key = carried-refused set_mapping _ _ _ 1 (set-mapping-remainder _ _ _ (λ e. omega (arith, c.if-size-ne0.true)))

pub returns-then-not-is_power_of_two : goal.returns-then-not-is_power_of_two
returns-then-not-is_power_of_two c flags key =
    let not = sym c.is_power_of_two.ensures ∙ c.if-not-is_power_of_two.true in
    carried-refused set_mapping _ _ _ 1 (set-mapping-power _ _ _ c.if-size-ne0.false not)

pub returns-then-new_count-gt-MOST_ENTRIES : goal.returns-then-new_count-gt-MOST_ENTRIES
returns-then-new_count-gt-MOST_ENTRIES c flags key =
    let power : is_power_of_two (c.args.size / field_size) ≡ true = sym c.is_power_of_two.ensures ∙ c.if-not-is_power_of_two.false in
    carried-refused set_mapping _ _ _ 2 (set-mapping-many _ _ _ c.if-size-ne0.false power (omega (arith, c.if-new_count-gt-MOST_ENTRIES.true)))

pub returns-then-not-all_below : goal.returns-then-not-all_below
returns-then-not-all_below c flags key =
    let power : is_power_of_two (c.args.size / field_size) ≡ true = sym c.is_power_of_two.ensures ∙ c.if-not-is_power_of_two.false in
    let bad = sym c.all_below.ensures ∙ c.if-not-all_below.true in
    carried-refused set_mapping _ _ _ 1 (set-mapping-entry _ _ _ c.if-size-ne0.false power c.if-new_count-gt-MOST_ENTRIES.false bad)

pub build_table-mapping-requires : goal.build_table-mapping-requires
build_table-mapping-requires c =
    let all : all_below c.args.queues (entries_in (c.args.size / field_size) c.args.payload.now) ≡ true =
    sym c.all_below.ensures ∙ c.if-not-all_below.false
    in
    (search rules, search rules, below-octets _ _ (search rules) all)

pub returns : goal.returns
returns c flags key =
    let held = settings_of c.args.queues flags key c.args.entries.now c.args.count.now in
    let power : is_power_of_two (c.args.size / field_size) ≡ true = sym c.is_power_of_two.ensures ∙ c.if-not-is_power_of_two.false in
    let all : all_below c.args.queues (entries_in (c.args.size / field_size) c.args.payload.now) ≡ true =
    sym c.all_below.ensures ∙ c.if-not-all_below.false
    in
    mapping-set held _ _ _ c.build_table-mapping.ensures
    (set-mapping-done _ _ _ c.if-size-ne0.false power c.if-new_count-gt-MOST_ENTRIES.false all)
