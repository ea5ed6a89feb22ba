-- `guest_messages::writer::write_set_key` meets its contract: the key is put behind the header.
use Rattle.octets.specs.Prelude.{◌≡◌, length, arith, eq-eqb}
use Rattle.toeplitz.specs.Hash.{key_length}
use Rattle.guest_messages.proofs.Buffers.{payload_put}
use Rattle.guest_messages.proofs.writer.write_set_key.Goals as goal

pub returns : goal.returns
returns c =
    let key : length c.args.key.now ≡ key_length = omega arith in
    let header = c.in_ok-length.ensures in
    simp (eq-eqb _ _ key, c.copy_from_slice.ensures.after) (payload_put _ _ _ _ _ _ key header.0 header.1 header.2)
