-- The array holds the entries so far.
use Rattle.octets.specs.Prelude.{◌≡◌, length}
use Rattle.messages.specs.Settings.{max_entries, mapping_of}
use Rattle.messages.specs.Requests.{entries_in}
use Rattle.messages.proofs.table.build_table.Given as goal

abbrev pub invariant-loop-k : goal.invariant-loop-k
invariant-loop-k l = (l.entries ≡ (mapping_of (entries_in l.k l.payload)).entries) × (length l.entries ≡ max_entries)
