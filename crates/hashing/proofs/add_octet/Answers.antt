-- `hashing::add_octet` meets its contract. The loop's invariant: the window at bit j of the octet, and the bits below j are added.
use Rattle.octets.specs.Prelude.{◌+◌, ◌*◌, add_assoc}
use Rattle.toeplitz.proofs.Windows.{sum-next}
use Rattle.hashing.proofs.add_octet.Goals as goal

pub loop-j-preserved : goal.loop-j-preserved
loop-j-preserved c =
    let i = c.args.at * 8 + c.loop-j.j in
    let sum = sum-next c.args.key.now c.args.input.now i _ _ _ _ c.loop-j.invariant.1 c.is_set.ensures
    c.loop-j.invariant.0 c.add_window-sum.ensures in
    (rw (← add_assoc) c.next_window-window.ensures, rw (← add_assoc) sum)
