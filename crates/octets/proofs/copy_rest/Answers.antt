-- `octets::copy_rest` meets its contract: dst is what it was, with src's first i octets at its start.
use Rattle.octets.specs.Prelude.{refl, arith, length-set}
use Rattle.octets.proofs.Copies.{copied_next, copied_all}
use Rattle.octets.proofs.copy_rest.Goals as goal

pub loop-i-init : goal.loop-i-init
loop-i-init c = (c.requires.dst_value, refl)

pub loop-i-preserved : goal.loop-i-preserved
loop-i-preserved c =
    (copied_next _ _ _ _ (omega arith) (omega arith) c.loop-i.invariant.0, simp length-set (omega arith))

pub returns : goal.returns
returns c = copied_all _ _ _ _ c.requires.src_len.0 (omega arith) c.loop-i.invariant.0
