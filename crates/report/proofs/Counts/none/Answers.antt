-- `report::Counts::none` meets its contract: the first of 64 new tallies are as many new tallies.
use Rattle.octets.specs.Prelude.{refl}
use Rattle.std.proofs.lemmas.List.{take-replicate}
use Rattle.report.specs.Inner.{nothing}
use Rattle.report.proofs.Tallies.{blank}
use Rattle.report.proofs.Counts.none.Goals as goal

pub returns-clause-counted : goal.returns-clause-counted
returns-clause-counted c =
    let alike = take-replicate c.args.queues 64 nothing c.requires in
    rw (blank _ c.default.ensures, blank _ c.default-2.ensures, alike) refl
