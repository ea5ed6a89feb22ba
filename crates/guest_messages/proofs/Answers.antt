-- What the host answers, the reader accepts.
use Rattle.octets.specs.Prelude.{◌≡◌, refl, sym, ap, ap₂, ◌∙◌, List, Bool, true, false, cond, ℕ, ◌+◌, ◌≤◌, arith, length, eq-eqb, le-leb}
use Rattle.octets.specs.Numbers.{number_at, octets_of}
use Rattle.octets.specs.Outcome.{value}
use Rattle.octets.proofs.Numbers.{length-octets, number-octets-alone}
use Rattle.messages.specs.Wire.{header_size, field_size, header, message, size_in, type_in, status_in, ack_flags_in, ack_type}
use Rattle.messages.specs.Wire.{success, buffer_overflow, all_flags}
use Rattle.messages.specs.Requests.{Request, get_flags, set_flags, set_key, set_mapping, none}
use Rattle.messages.specs.Requests.{request_of, status_of, carries_flags, status_payload, flags_payload, ack_payload}
use Rattle.messages.proofs.Parts.{message-is, length-message, type-header, size-header, number-payload}
use Rattle.messages.proofs.AckOctets.{flags-success}
use Rattle.messages.proofs.Statuses.{status-most, none-supported}
use Rattle.guest_messages.specs.Reader.{status, status_and_flags, status_allowed, read_ack, answer_to}
use Rattle.guest_messages.proofs.Accepts.{accept-flags, accept-status}

-- the host gives no status that the reader does not allow
pub status-allowed : (r : Request) (q n : ℕ) (p : List ℕ) → status_allowed r (status_of r q n p) ≡ true
unfolding status_allowed
status-allowed get_flags q n p = le-leb _ _ (status-most q n p get_flags)
status-allowed set_flags q n p = le-leb _ _ (status-most q n p set_flags)
status-allowed set_key q n p = le-leb _ _ (status-most q n p set_key)
status-allowed set_mapping q n p = le-leb _ _ (status-most q n p set_mapping)
status-allowed none q n p = eq-eqb _ _ (none-supported q n p)

-- the ack of a successful get flags, octet by octet
unfoldable flags-message : List ℕ
flags-message = message ack_type (flags_payload all_flags)

flags-read : (status_in flags-message ≡ success) × (ack_flags_in flags-message ≡ all_flags) × (size_in flags-message ≡ field_size + field_size)
    × (type_in flags-message ≡ ack_type) × (length flags-message ≡ header_size + size_in flags-message)
unfolding flags-message message header octets_of number_at
flags-read = (refl, refl, refl, refl, refl)

module _ (t st : ℕ) where
  with-flags : carries_flags (request_of t) st ≡ true → read_ack t flags-message ≡ value (status_and_flags st all_flags)
  with-flags e =
      let got = flags-success (request_of t) st e in
      let x = flags-read in
      let same : status_in flags-message ≡ st = x.0 ∙ sym got.1 in
      sym (accept-flags t flags-message (rw same e) x.4 x.3 x.2 (rw x.1 (omega arith)))
      ∙ ap₂ (λ (a b : ℕ). value (status_and_flags a b)) (sym got.1) x.1

  with-status : carries_flags (request_of t) st ≡ false → st ≤ buffer_overflow → status_allowed (request_of t) st ≡ true
      → read_ack t (message ack_type (status_payload st)) ≡ value (status st)
  with-status e small allowed =
      let p = status_payload st in
      let eight : length p ≡ field_size = length-octets field_size st in
      let size : size_in (message ack_type p) ≡ length p = rw message-is (size-header ack_type (length p) p (rw eight (omega arith))) in
      let type : type_in (message ack_type p) ≡ ack_type = rw message-is (type-header ack_type (length p) p (omega arith)) in
      let long = length-message ack_type p ∙ ap (λ (n : ℕ). header_size + n) (sym size) in
      let same : status_in (message ack_type p) ≡ st = number-payload ack_type p field_size 0 ∙ number-octets-alone field_size st (omega arith) in
      sym (accept-status t (message ack_type p) (rw same e) long type (size ∙ eight) (rw same allowed)) ∙ ap (λ (a : ℕ). value (status a)) same

  pub read_back : st ≤ buffer_overflow → status_allowed (request_of t) st ≡ true
      → read_ack t (message ack_type (ack_payload (request_of t) st)) ≡ value (answer_to (request_of t) st)
  unfolding flags-message
  read_back small allowed = by (carries_flags (request_of t) st) refl
    where
      by : (b : Bool) → carries_flags (request_of t) st ≡ b
          → read_ack t (message ack_type (cond b (flags_payload all_flags) (status_payload st)))
          ≡ value (cond b (status_and_flags st all_flags) (status st))
      by true e = with-flags e
      by false e = with-status e small allowed
