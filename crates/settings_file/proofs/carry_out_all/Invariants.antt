-- The loop of `settings_file::carry_out_all`: what is left goes on from the settings so far.
use Rattle.octets.specs.Prelude.{◌≡◌, length}
use Rattle.messages.specs.Settings.{Good}
use Rattle.interface.specs.States.{settings_in}
use Rattle.settings_file.specs.Loading.{settings_from}
use Rattle.settings_file.proofs.carry_out_all.Given as goal

abbrev pub invariant-loop-rest : goal.invariant-loop-rest
invariant-loop-rest l = record {
  good : Good (settings_in l.i);
  so : settings_from (settings_in l.initial.i) l.messages ≡ settings_from (settings_in l.i) l.rest;
}

abbrev pub decreases-loop-rest : goal.decreases-loop-rest
decreases-loop-rest l = length l.rest
