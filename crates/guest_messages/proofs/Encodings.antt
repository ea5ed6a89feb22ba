-- What the reader accepts is the one encoding of what it answers.
use Rattle.octets.specs.Prelude.{◌≡◌, refl, sym, ap, ap₂, ◌∙◌, List, ◌++◌, Bool, true, false, cond, ℕ, ◌+◌, arith, length, take}
use Rattle.octets.specs.Prelude.{drop, length-drop, take-append-drop, take_all, drop-drop}
use Rattle.octets.specs.Numbers.{AreOctets, octets_of}
use Rattle.octets.specs.Outcome.{value}
use Rattle.octets.proofs.Numbers.{octets-number}
use Rattle.octets.proofs.Outcomes.{test-value}
use Rattle.messages.specs.Wire.{header_size, field_size, message, size_in, payload_in, status_in, ack_flags_in, ack_type}
use Rattle.messages.specs.Requests.{Request, request_of, carries_flags}
use Rattle.messages.proofs.Parts.{message-back}
use Rattle.guest_messages.specs.Refusals.{not_an_ack}
use Rattle.guest_messages.specs.Reader.{Reading, status, status_and_flags, is_ack_to, reading_of, read_ack, encoded}
use Rattle.guest_messages.proofs.Accepts.{Acks, acks-exactly}

pub read-value : (t : ℕ) (m : List ℕ) (v : Reading) → read_ack t m ≡ value v → Acks (request_of t) m × (reading_of (request_of t) m ≡ v)
unfolding read_ack
read-value t m v e =
    let x = test-value (is_ack_to (request_of t) m) (reading_of (request_of t) m) v not_an_ack e in
    ((acks-exactly (request_of t) m).0 x.0, x.1)

module _ (m : List ℕ) (o : AreOctets m) where
  -- the octets from the status on
  one_field : length m ≡ header_size + field_size → payload_in m ≡ octets_of field_size (status_in m)
  one_field long = sym (octets-number field_size m header_size o (omega arith) ∙ take_all field_size (payload_in m) (rw length-drop (omega arith)))

  two_fields : length m ≡ header_size + (field_size + field_size)
      → payload_in m ≡ octets_of field_size (status_in m) ++ octets_of field_size (ack_flags_in m)
  two_fields long =
      let first : octets_of field_size (status_in m) ≡ take field_size (payload_in m) = octets-number field_size m header_size o (omega arith) in
      let second : octets_of field_size (ack_flags_in m) ≡ drop field_size (payload_in m) =
      octets-number field_size m (header_size + field_size) o (omega arith)
      ∙ take_all field_size (drop (header_size + field_size) m) (rw length-drop (omega arith))
      ∙ sym (drop-drop field_size header_size m) in
      sym (ap₂ ◌++◌ first second ∙ take-append-drop field_size (payload_in m))

  pub ack-encoded : (r : Request) → Acks r m → m ≡ encoded (reading_of r m)
  ack-encoded r x = message-back m o x.long ∙ ap₂ message x.ack refl ∙ by (carries_flags r (status_in m)) x.size
    where
      by : (b : Bool) → size_in m ≡ cond b (field_size + field_size) field_size
          → message ack_type (payload_in m) ≡ encoded (cond b (status_and_flags (status_in m) (ack_flags_in m)) (status (status_in m)))
      by true size = ap (message ack_type) (two_fields (x.long ∙ ap (λ (n : ℕ). header_size + n) size))
      by false size = ap (message ack_type) (one_field (x.long ∙ ap (λ (n : ℕ). header_size + n) size))
