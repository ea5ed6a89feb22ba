-- The loop of `hashing::hash_octets`: the input bits of the octets below `at` are added.
use Rattle.octets.specs.Prelude.{◌≡◌, ◌*◌}
use Rattle.toeplitz.specs.Inner.{hash_below}
use Rattle.hashing.proofs.hash_octets.Given as goal

abbrev pub invariant-loop-at : goal.invariant-loop-at
invariant-loop-at l = l.sum ≡ hash_below l.key l.input (l.at * 8)
