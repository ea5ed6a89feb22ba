-- An ack put together: a payload put behind a header, over the octets that stood there, and n octets of it behind the header.
use Rattle.octets.specs.Prelude.{◌≡◌, List, [], ◌++◌, append-nil, ℕ, ◌+◌, arith, length, take}
use Rattle.octets.specs.Prelude.{drop, drop_of_length-le, take_at, drop_at, take-append-add}
use borrow.Rule.Slice.PartMut.{put_mid}
use Rattle.messages.specs.Wire.{header_size}
use Rattle.guest_steps.specs.Guest.{max_ack_payload}

pub put_part : (header payload rest : List ℕ) (n : ℕ) → length header ≡ header_size → length rest ≡ max_ack_payload
    → take (header_size + n) (put_mid header_size max_ack_payload (header ++ rest) payload) ≡ header ++ take n payload
put_part header payload rest n head room =
    let none : drop max_ack_payload rest ≡ [] = drop_of_length-le rest {i = max_ack_payload} (omega arith) in
    rw (take_at header rest header_size head, drop_at header rest header_size head, none, append-nil payload, ← head)
    (take-append-add header payload n)
