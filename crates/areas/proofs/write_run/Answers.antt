-- `areas::write_run` meets its contract: one part of the page comes back with the octets.
use Rattle.octets.specs.Prelude.{◌∙◌, ap, List, ℕ, ◌+◌, ◌-◌, arith, length}
use borrow.Rule.Slice.PartMut.{put_mid}
use Rattle.octets.proofs.Copies.{part-sets}
use Rattle.areas.proofs.write_run.Goals as goal

pub returns : goal.returns
returns c =
    let a = c.args in
    let n : ℕ = a.at + length a.from.now - a.at in
    ap (λ (ys : List ℕ). put_mid a.at n a.page.now ys) c.copy.ensures
    ∙ part-sets a.page.now a.from.now a.at n (omega arith) (omega arith)
