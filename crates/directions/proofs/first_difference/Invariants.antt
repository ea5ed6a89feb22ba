-- The loop of `directions::first_difference`: the two windows at bit j, and all below j are equal.
use Rattle.octets.specs.Prelude.{◌≡◌, ◌+◌, ◌*◌}
use Rattle.toeplitz.specs.Hash.{window_at}
use Rattle.directions.specs.Inner.{SameBelow}
use Rattle.directions.proofs.first_difference.Given as goal

abbrev pub invariant-loop-j : goal.invariant-loop-j
invariant-loop-j l =
    (l.left ≡ window_at l.key (l.at * 8 + l.j)) × (l.right ≡ window_at l.key ((l.at + l.size) * 8 + l.j))
    × SameBelow l.key (l.at * 8) ((l.at + l.size) * 8) l.j
