-- The loop of `hashing::add_octet`: the window at bit j of the octet, and the bits below j are added.
use Rattle.octets.specs.Prelude.{◌≡◌, ◌+◌, ◌*◌}
use Rattle.toeplitz.specs.Hash.{window_at}
use Rattle.toeplitz.specs.Inner.{hash_below}
use Rattle.hashing.proofs.add_octet.Given as goal

abbrev pub invariant-loop-j : goal.invariant-loop-j
invariant-loop-j l =
    (l.window ≡ window_at l.key (l.at * 8 + l.j)) × (l.sum ≡ hash_below l.key l.input (l.at * 8 + l.j))
