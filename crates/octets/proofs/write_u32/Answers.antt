-- `octets::write_u32` meets its contract: the library's octets of a number are those by its definition.
use Rattle.octets.specs.Prelude.{◌∙◌, ap, List, ℕ, ◌+◌, ◌-◌}
use borrow.Rule.Slice.PartMut.{put_mid}
use Rattle.octets.proofs.Numbers.{stored-octets}
use Rattle.octets.proofs.write_u32.Goals as goal

pub returns : goal.returns
returns c =
    let a = c.args in
    ap (λ (xs : List ℕ). put_mid a.at (a.at + 4 - a.at) a.octets.now xs) (c.copy_from_slice.ensures.after ∙ c.to_le_bytes.ensures)
    ∙ stored-octets 4 a.octets.now a.at a.v c.requires
