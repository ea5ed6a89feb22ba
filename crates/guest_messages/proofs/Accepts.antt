-- Which messages the reader accepts, and what it answers then.
use Rattle.octets.specs.Prelude.{◌≡◌, refl, sym, ap, ◌∙◌, ◌↔◌, List, true, false, ℕ, ◌+◌, ◌≤◌}
use Rattle.octets.specs.Prelude.{arith, length, eqb, eq-eqb, eqb-true, le-leb, leb-true}
use Rattle.octets.specs.Outcome.{value}
use Rattle.octets.proofs.Truth.{both_true}
use Rattle.messages.specs.Wire.{header_size, field_size, type_in, size_in, status_in, ack_flags_in, ack_type}
use Rattle.messages.specs.Wire.{success, not_supported, buffer_overflow, all_flags}
use Rattle.messages.specs.Requests.{Request, get_flags, set_flags, set_key, set_mapping, none, request_of, carries_flags}
use Rattle.messages.proofs.AckOctets.{flags-success}
use Rattle.guest_messages.specs.Reader.{status, status_and_flags, status_allowed, ack_size, flags_allowed, is_ack_to, reading_of, read_ack}

-- what holds of an ack to a request
pub record Acks (r : Request) (m : List ℕ) : Type 0 where
  pub long : length m ≡ header_size + size_in m
  pub ack : type_in m ≡ ack_type
  pub allowed : status_allowed r (status_in m) ≡ true
  pub size : size_in m ≡ ack_size r (status_in m)
  pub flags : flags_allowed r m ≡ true

pub acks-exactly : (r : Request) (m : List ℕ) → (is_ack_to r m ≡ true) ↔ Acks r m
unfolding is_ack_to
acks-exactly r m = (
  λ e. let a = (both_true (eqb (length m) (header_size + size_in m)) _).0 e in
      let b = (both_true (eqb (type_in m) ack_type) _).0 a.1 in
      let c = (both_true (status_allowed r (status_in m)) _).0 b.1 in
      let d = (both_true (eqb (size_in m) (ack_size r (status_in m))) _).0 c.1 in
      record { long = eqb-true _ _ a.0; ack = eqb-true _ _ b.0; allowed = c.0; size = eqb-true _ _ d.0; flags = d.1 },
  λ x. rw (eq-eqb _ _ x.long, eq-eqb _ _ x.ack, x.allowed, eq-eqb _ _ x.size) x.flags,
)

read-accepted : (t : ℕ) (m : List ℕ) → Acks (request_of t) m → value (reading_of (request_of t) m) ≡ read_ack t m
unfolding read_ack
read-accepted t m x = rw ((acks-exactly (request_of t) m).1 x) refl

pub allowed-most : (r : Request) (st : ℕ) → status_allowed r st ≡ true → st ≤ buffer_overflow
unfolding status_allowed
allowed-most get_flags st e = leb-true _ _ e
allowed-most set_flags st e = leb-true _ _ e
allowed-most set_key st e = leb-true _ _ e
allowed-most set_mapping st e = leb-true _ _ e
allowed-most none st e = omega (arith, eqb-true st not_supported e)

-- the same for the tactics of the reader's crate
pub ruleset statuses = (allowed-most)

-- what the reader answers to an ack, by whether it has flags
module _ (t : ℕ) (m : List ℕ) where
  pub accept-flags : carries_flags (request_of t) (status_in m) ≡ true
      → length m ≡ header_size + size_in m → type_in m ≡ ack_type → size_in m ≡ field_size + field_size → ack_flags_in m ≤ all_flags
      → value (status_and_flags success (ack_flags_in m)) ≡ read_ack t m
  unfolding status_allowed
  accept-flags carries long type size flags =
      let got = flags-success (request_of t) (status_in m) carries in
      let allowed : status_allowed (request_of t) (status_in m) ≡ true = rw (got.0, got.1) refl in
      let x : Acks (request_of t) m =
      record { long = long; ack = type; allowed = allowed; size = rw carries size; flags = rw carries (le-leb _ _ flags) } in
      ap (λ (st : ℕ). value (status_and_flags st (ack_flags_in m))) (sym got.1) ∙ rw carries at (read-accepted t m x)

  pub accept-status : carries_flags (request_of t) (status_in m) ≡ false
      → length m ≡ header_size + size_in m → type_in m ≡ ack_type → size_in m ≡ field_size
      → status_allowed (request_of t) (status_in m) ≡ true
      → value (status (status_in m)) ≡ read_ack t m
  accept-status carries long type size allowed =
      let x : Acks (request_of t) m =
      record { long = long; ack = type; allowed = allowed; size = rw carries size; flags = rw carries refl } in
      rw carries at (read-accepted t m x)
