-- The octets of the two kinds of ack, and the status in them.
use Rattle.octets.specs.Prelude.{◌≡◌, refl, sym, ap, ◌∙◌, List, ◌++◌, true, false≢true, ℕ, ◌+◌, ◌^◌}
use Rattle.octets.specs.Prelude.{◌≤◌, ◌<◌, arith, length, set, replicate, length-append, length-replicate, eqb-true}
use Rattle.octets.specs.Numbers.{number_at, octets_of}
use Rattle.octets.proofs.Truth.{by-test}
use Rattle.octets.proofs.Numbers.{length-octets, octets-small, number-octets, number-octets-alone}
use Rattle.messages.specs.Wire.{header_size, field_size, header, message, ack_type, success, all_flags}
use Rattle.messages.specs.Requests.{Request, get_flags, set_flags, set_key, set_mapping, none}
use Rattle.messages.specs.Requests.{status_payload, flags_payload, carries_flags, ack_payload, max_ack, ack_stored}
use Rattle.messages.specs.declared.Ack.{Ack}
use Rattle.messages.proofs.Parts.{length-message}

-- type 1 and the size, and the status, all else zeros
abbrev stored : ℕ → Ack
stored status = record { octets = set (set (set (replicate max_ack 0) 0 1) 4 8) 8 status; length = 16 }

pub status-stored : (status : ℕ) → status < 256 → stored status ≡ ack_stored (status_payload status)
unfolding message header octets_of
status-stored status h = ap ack_stored (sym (octets-small 7 status h))

-- an ack with another size, and flags behind its status
abbrev pub flags_behind : Ack → ℕ → Ack
flags_behind ack flags = record { octets = set (set ack.octets 4 16) 16 flags; length = ack.length + 8 }

pub flags-stored : (flags : ℕ) → flags < 256 → flags_behind (ack_stored (status_payload success)) flags ≡ ack_stored (flags_payload flags)
unfolding message header octets_of
flags-stored flags h = ap (λ (x : List ℕ). ack_stored (octets_of field_size success ++ x)) (sym (octets-small 7 flags h))

-- only the ack of a get flags that succeeded has flags
pub flags-success : (r : Request) (status : ℕ) → carries_flags r status ≡ true → (r ≡ get_flags) × (status ≡ success)
flags-success get_flags status e = (refl, eqb-true _ _ e)
flags-success set_flags status e = absurd (false≢true e)
flags-success set_key status e = absurd (false≢true e)
flags-success set_mapping status e = absurd (false≢true e)
flags-success none status e = absurd (false≢true e)

pub payload-status : (r : Request) (status : ℕ) → status < 256 ^ 8 → number_at field_size (ack_payload r status) 0 ≡ status
payload-status r status h =
    by-test (λ (x : List ℕ). number_at field_size x 0 ≡ status) (carries_flags r status) _ _
    (λ e. number-octets field_size success (octets_of field_size all_flags) (omega arith) ∙ sym (flags-success r status e).1)
    (λ e. number-octets-alone field_size status h)

-- the payload of an ack is a field or two, so it holds a status, and the ack has its place
pub payload-size : (r : Request) (status : ℕ) → (field_size ≤ length (ack_payload r status)) × (length (ack_payload r status) ≤ 16)
payload-size r status =
    by-test (λ (x : List ℕ). (field_size ≤ length x) × (length x ≤ 16)) (carries_flags r status) _ _
    (λ e. simp (length-append, length-octets) (omega arith, omega arith))
    (λ e. simp length-octets (omega arith, omega arith))

pub payload-short : (r : Request) (status : ℕ) → length (ack_payload r status) ≤ 16
payload-short r status = (payload-size r status).1

pub stored-fits : (payload : List ℕ) → length payload ≤ 16
    → (length (ack_stored payload).octets ≡ max_ack) × ((ack_stored payload).length ≤ max_ack)
stored-fits payload short =
    let long : length (message ack_type payload) ≡ header_size + length payload = length-message ack_type payload in
    (simp (length-append, length-replicate) (omega arith), omega arith)
