-- `report::count_records` meets its contract: at each place the counts, with what the records from there on come to,
-- are what all records come to.
use Rattle.std.proofs.lemmas.Result.{err_from_is_err_and}
use Rattle.interface.specs.States.{settings_in}
use Rattle.report.proofs.Readings.{found, room, counted, refused-here, counted-all}
use Rattle.octets.specs.Prelude.{◌∙◌}
use Rattle.report.proofs.count_records.Goals as goal

pub slice_bounds-frame-count : goal.slice_bounds-frame-count
slice_bounds-frame-count c =
    (found (settings_in c.args.interface.now) c.args.link c.args.captured.now c.loop-record.invariant.same c.loop-record.invariant.counting
    c.in-Some.ensures.steps c.in_ok-record.was).forward

pub slice_bounds-frame-start : goal.slice_bounds-frame-start
slice_bounds-frame-start c =
    (found (settings_in c.args.interface.now) c.args.link c.args.captured.now c.loop-record.invariant.same c.loop-record.invariant.counting
    c.in-Some.ensures.steps c.in_ok-record.was).forward

pub slice_bounds-frame-end : goal.slice_bounds-frame-end
slice_bounds-frame-end c =
    (found (settings_in c.args.interface.now) c.args.link c.args.captured.now c.loop-record.invariant.same c.loop-record.invariant.counting
    c.in-Some.ensures.steps c.in_ok-record.was).inside

pub add-requires : goal.add-requires
add-requires c =
    let fits = room (settings_in c.args.interface.now) c.args.link c.args.captured.now c.loop-record.invariant.same
    c.loop-record.invariant.counting c.in-Some.ensures.steps c.in_ok-record.was c.requires.0 c.requires.1 in
    rw (c.steer-choice.ensures, c.ip_part.ensures) fits

pub loop-record-preserved : goal.loop-record-preserved
loop-record-preserved c =
    let next = counted (settings_in c.args.interface.now) c.args.link c.args.captured.now c.loop-record.invariant.same
    c.loop-record.invariant.counting c.in-Some.ensures.steps c.in_ok-record.was c.requires.0 in
    record {
      can_next = tt;
      ends = tt;
      same = rw c.in-Some.ensures.steps.same c.loop-record.invariant.same;
      count = c.add.ensures.count ∙ c.loop-record.invariant.count;
      counting = rw (c.add.ensures.counted, c.steer-choice.ensures, c.ip_part.ensures) next;
    }

pub returns-in_err-record-clause-counts : goal.returns-in_err-record-clause-counts
returns-in_err-record-clause-counts c =
    let refused = refused-here (settings_in c.args.interface.now) c.args.link c.args.captured.now c.loop-record.invariant.same
    c.loop-record.invariant.counting c.in-Some.ensures.steps c.in_err-record.was in
    let e = err_from_is_err_and c.from_residual.result c.from_residual.ensures.1 in
    rw (e.1, e.2) refused

pub returns-clause-counts : goal.returns-clause-counts
returns-clause-counts c =
    counted-all (settings_in c.args.interface.now) c.args.link c.args.captured.now c.loop-record.invariant.same
    c.loop-record.invariant.counting c.in-None.ensures.steps
