-- `hashing::hash_octets` meets its contract. The loop's invariant: the input bits of the octets below `at` are added.
use Rattle.octets.specs.Prelude.{◌≡◌, refl, arith, length}
use Rattle.toeplitz.specs.Hash.{xor_below, published_hash}
use Rattle.hashing.proofs.hash_octets.Goals as goal

pub loop-at-init : goal.loop-at-init
unfolding xor_below
loop-at-init c = refl

pub returns : goal.returns
unfolding published_hash
returns c =
    let e : c.loop-at.at ≡ length c.args.input.now = omega arith in
    rw e at c.loop-at.invariant
