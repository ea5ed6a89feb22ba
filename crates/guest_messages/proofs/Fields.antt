-- Fields written one after the other are the entries that the host reads.
use Rattle.octets.specs.Prelude.{◌≡◌, refl, List, [], ◌∷◌, ◌++◌, append_assoc, ℕ, suc, ◌^◌, arith, length, drop_at}
use Rattle.octets.proofs.Numbers.{length-octets, number-octets}
use Rattle.messages.specs.Wire.{field_size}
use Rattle.messages.specs.Settings.{EachBelow}
use Rattle.messages.specs.Requests.{entries_in}
use Rattle.guest_messages.specs.Writer.{fields_of}

pub fields-entries : (es rest : List ℕ) → EachBelow (256 ^ field_size) es → entries_in (length es) (fields_of es ++ rest) ≡ es
unfolding fields_of entries_in
fields-entries [] rest h = refl
fields-entries (e ∷ es) rest h =
    let behind = fields_of es ++ rest in
    rw (append_assoc, number-octets field_size e behind (h 0 (omega arith)), drop_at _ behind field_size (length-octets field_size e))
    (rw (fields-entries es rest (λ i l. h (suc i) (omega arith))) refl)
