-- `packet::is_fragment` meets its contract: the two octets as one number, under the mask, tell a fragment.
use Rattle.octets.specs.Prelude.{ap, ◌∙◌, not, ℕ, bit_and, eqb}
use Rattle.packet.specs.Packets.{fragment_field}
use Rattle.packet.proofs.Fragments.{fragment-told}
use Rattle.packet.proofs.is_fragment.Goals as goal

pub returns : goal.returns
unfolding fragment_field
returns c =
    let p = c.args.packet.now in
    ap (λ (field : ℕ). not (eqb (bit_and field 16383) 0)) c.from_be_bytes-field.ensures ∙ fragment-told p
