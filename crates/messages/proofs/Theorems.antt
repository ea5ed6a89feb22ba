-- What readers ask of the host's messages, over the definitions alone. A contract says that the call answers what
-- `carried_out` says; these say what that means.
use Rattle.octets.specs.Prelude.{◌≡◌, refl, sym, ap, ◌∙◌, ◌↔◌, true, List, [], ◌∷◌, ℕ, ◌+◌, ◌^◌, ◌≤◌, ◌<◌, arith, length, take}
use Rattle.octets.specs.Prelude.{take-append_seam, get_or-take}
use lib.Pow.{pow_mono}
use Rattle.octets.specs.Numbers.{number_at}
use Rattle.octets.proofs.Numbers.{number_same, number-octets-alone}
use Rattle.toeplitz.specs.Hash.{key_length}
use Rattle.messages.specs.Wire.{max_payload, header_size, field_size, message, status_in, ack_type, success}
use Rattle.messages.specs.Settings.{max_queues, is_power_below, is_power_of_two, is_listed, settings_at_setup, Good, Settings}
use Rattle.messages.specs.Requests.{request_of, status_of, replaced, status_payload, ack_payload, max_ack, ack_in, ack_status}
use Rattle.messages.specs.Requests.{answered, carried_by, carried_out}
use Rattle.messages.proofs.Powers.{power-exactly, listed-parts, exponent-most}
use Rattle.messages.proofs.Parts.{length-message, number-payload}
use Rattle.messages.proofs.AckOctets.{payload-status, payload-size, payload-short, stored-fits}
use Rattle.messages.proofs.Statuses.{status-most}
use Rattle.messages.proofs.Effects.{settings-refused, settings-done, settings-either, replaced-queues}
use Rattle.messages.proofs.Goodness.{good-mapping, first-table, good-replaced}
use Rattle.messages.proofs.Looks.{carried_same}

module _ (s : Settings) (t n : ℕ) (p : List ℕ) where
  -- the octets of the ack, and the status in it
  pub ack-is : ack_in (carried_out s t n p) ≡ message ack_type (ack_payload (request_of t) (status_of (request_of t) s.queues n p))
  unfolding carried_by
  ack-is = take-append_seam _ _

  -- it has its place: 24 octets are kept of it, and it has no more
  pub ack-fits : (length (carried_out s t n p).ack.octets ≡ max_ack) × ((carried_out s t n p).ack.length ≤ max_ack)
  unfolding carried_by
  ack-fits =
      let status = status_of (request_of t) s.queues n p in
      stored-fits (ack_payload (request_of t) status) (payload-short (request_of t) status)

  pub ack-carries-status : ack_status (carried_out s t n p) ≡ status_of (request_of t) s.queues n p
  ack-carries-status =
      let r = request_of t in
      let status = status_of r s.queues n p in
      let small : status ≤ 3 = status-most s.queues n p r in
      ap status_in ack-is ∙ number-payload ack_type (ack_payload r status) field_size 0 ∙ payload-status r status (omega arith)

  -- and where it is read from the ack as it is handed on
  pub status-in-place : number_at field_size (carried_out s t n p).ack.octets header_size ≡ ack_status (carried_out s t n p)
  unfolding carried_by
  status-in-place =
      let c = carried_out s t n p in
      let r = request_of t in
      let payload = ack_payload r (status_of r s.queues n p) in
      let long : length (message ack_type payload) ≡ header_size + length payload = length-message ack_type payload in
      let some = (payload-size r (status_of r s.queues n p)).0 in
      number_same field_size c.ack.octets (ack_in c) header_size header_size
      (λ k l. sym (get_or-take c.ack.length c.ack.octets (header_size + k) 0 (omega (arith, long, some))))

  -- demand 1: a request acked with a nonzero status leaves key, mapping and flags as they stood
  pub refused-keeps-settings : (ack_status (carried_out s t n p) ≡ success → ⊥) → (carried_out s t n p).settings ≡ s
  refused-keeps-settings h = settings-refused (request_of t) s n p (λ e. h (ack-carries-status ∙ e))

  -- a success replaces the setting whole, and no other
  pub success-replaces : ack_status (carried_out s t n p) ≡ success → (carried_out s t n p).settings ≡ replaced (request_of t) s n p
  success-replaces e = settings-done (request_of t) s n p (sym ack-carries-status ∙ e)

  -- no request changes the queue count
  pub queues-stay : (carried_out s t n p).settings.queues ≡ s.queues
  queues-stay = settings-either (request_of t) s n p (λ (x : Settings). x.queues ≡ s.queues) refl (λ e. replaced-queues (request_of t) s n p)

  -- good settings stay good
  pub good-stays-good : Good s → key_length ≤ length p → Good (carried_out s t n p).settings
  good-stays-good good whole = settings-either (request_of t) s n p Good good (good-replaced s n p good whole (request_of t))

-- the status of an answer is the one in its ack
pub answered-status : (s : Settings) (status : ℕ) → status < 256 ^ field_size → ack_status (answered s status) ≡ status
answered-status s status h =
    let p = status_payload status in
    ap status_in (take-append_seam (message ack_type p) _) ∙ number-payload ack_type p field_size 0 ∙ number-octets-alone field_size status h

-- nothing beyond the size given by the header is looked at
pub header-bounds-payload : (s : Settings) (t n : ℕ) (p p' : List ℕ) → take n p ≡ take n p' → carried_out s t n p ≡ carried_out s t n p'
header-bounds-payload s t n p p' h = carried_same s n p p' (λ l. h) (request_of t)

-- a payload above 1,024 octets is dropped: the header alone decides
pub header-alone : (s : Settings) (t n : ℕ) (p p' : List ℕ) → max_payload < n → carried_out s t n p ≡ carried_out s t n p'
header-alone s t n p p' h = carried_same s n p p' (λ l. absurd (omega arith)) (request_of t)

-- a new interface's settings are good
pub good-at-setup : (q : ℕ) → 1 ≤ q → q ≤ max_queues → Good (settings_at_setup q)
unfolding is_power_of_two is_power_below
good-at-setup q some most =
    record {
      some-queue = some;
      queues = most;
      flags = omega arith;
      key = refl;
      mapping = good-mapping q (0 ∷ []) refl (omega arith) (first-table q some);
    }

-- the listed mapping lengths are 2 ^ 0, 2 ^ 1, .. 2 ^ 7
pub listed-exactly : (n : ℕ) → (is_listed n ≡ true) ↔ ((k : ℕ) × (k ≤ 7) × (n ≡ 2 ^ k))
listed-exactly n = (
  λ e. let x = (listed-parts n).0 e in
      let p = (power-exactly n).0 x.0 in
      (p.0, exponent-most p.0 7 (rw (← p.1) x.1), p.1),
  λ x. (listed-parts n).1 ((power-exactly n).1 (x.0, x.2), rw x.2 (pow_mono x.1)),
)
