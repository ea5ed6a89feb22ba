use Rattle.octets.specs.Prelude.{◌≡◌, ◌++◌, length, take, drop}
use Rattle.octets.proofs.copy_rest.Given as goal

abbrev pub invariant-loop-i : goal.invariant-loop-i
invariant-loop-i l = (l.dst ≡ take l.i l.src ++ drop l.i l.initial.dst) × (length l.dst ≡ length l.initial.dst)
