-- Messages of the writer, and acks, as whole messages that are read.
use Rattle.octets.specs.Prelude.{◌≡◌, refl, sym, ap, ap₂, ◌∙◌, List, [], ◌++◌, true, false, ◌||◌, ℕ, ◌+◌, ◌-◌, ◌^◌, ◌≤◌, ◌<◌, zero-add, arith, length}
use Rattle.octets.specs.Prelude.{take, drop, length-append, length-drop, take-append-drop, sets, sets-eq, length-take-le, take_at, eqb, leb, le-leb}
use Rattle.octets.specs.Numbers.{octets_of}
use Rattle.octets.specs.Outcome.{Outcome, value}
use Rattle.octets.proofs.Truth.{by-test}
use Rattle.octets.proofs.Outcomes.{value_same, test-value}
use Rattle.octets.proofs.Copies.{sets-all}
use Rattle.octets.proofs.Numbers.{length-octets}
use Rattle.toeplitz.specs.Hash.{key_length}
use Rattle.messages.specs.Wire.{header_size, field_size, message, size_in, ack_type, get_flags_type, set_flags_type, set_key_type, set_mapping_type}
use Rattle.messages.specs.Wire.{all_flags, success}
use Rattle.messages.specs.Settings.{is_listed, Settings}
use Rattle.messages.specs.Requests.{Request, request_of, status_of, carries_flags, ack_payload, ack_in, carried_out}
use Rattle.messages.proofs.Parts.{message-is, length-message, size-header}
use Rattle.messages.proofs.AckOctets.{payload-short}
use Rattle.messages.proofs.Theorems.{ack-is}
use Rattle.ring.specs.Reading.{message_length, whole, received}
use Rattle.ring.proofs.Turns.{parts}
use Rattle.ring.proofs.Steps.{received-append, received-header, received-payload}
use Rattle.ring.proofs.Holdings.{size-take}
use Rattle.guest_steps.specs.Guest.{max_request, max_ack_payload}
use Rattle.guest_messages.specs.Writer.{fields_of}
use Rattle.guest_messages.specs.Reader.{read_ack}
use Rattle.frontend.specs.Rules.{Asked, gets_flags, sets_flags, sets_key, sets_mapping}
use Rattle.guest_steps.specs.Calls.{size_wrong, message_octets, judged, seen}
use Rattle.frontend.proofs.Goodness.{short-get-flags, short-set-flags, short-set-key, short-set-mapping}
use Rattle.ends.specs.Ends.{Made}

-- a message is as long as its header says
message-long : (t : ℕ) (p : List ℕ) → length p < 256 ^ 4 → length (message t p) ≡ message_length (message t p)
message-long t p h =
    length-message t p ∙ ap (λ (n : ℕ). header_size + n) (sym (rw message-is (size-header t (length p) p h)))

-- so are the writer's messages, which the guest has a place for
message-shaped : (t : ℕ) (p m : List ℕ) → message t p ≡ m → length m ≤ max_request → (length m ≡ message_length m) × (length m ≤ max_request)
message-shaped t p m same short =
    (rw (← same) (message-long t p (omega (arith, length-message t p, ap length same))), short)

asked-shaped : (request : Outcome (List ℕ)) → Asked request → (m : List ℕ) → request ≡ value m
    → (length m ≡ message_length m) × (length m ≤ max_request)
asked-shaped _ gets_flags m e = message-shaped get_flags_type [] m (value_same _ _ e) (short-get-flags m e)
asked-shaped _ (sets_flags flags) m e =
    message-shaped set_flags_type (octets_of field_size flags) m (test-value (leb flags all_flags) _ m _ e).1 (short-set-flags flags m e)
asked-shaped _ (sets_key key) m e =
    message-shaped set_key_type key m (test-value (eqb (length key) key_length) _ m _ e).1 (short-set-key key m e)
asked-shaped _ (sets_mapping entries) m e =
    message-shaped set_mapping_type (fields_of entries) m (test-value (is_listed (length entries)) _ m _ e).1 (short-set-mapping entries m e)

pub made_shaped : (m : List ℕ) → Made m → (length m ≡ message_length m) × (length m ≤ max_request)
made_shaped m made = asked-shaped made.0 made.1 m made.2

-- such a message read whole, from its first octet on
pub received-message : (xs h p : List ℕ) → length h ≡ header_size → length xs ≡ message_length xs
    → received xs (parts h p 0) ≡ parts (take header_size xs) (sets p 0 (drop header_size xs)) (length xs)
received-message xs h p size long =
    let front = take header_size xs in
    let back = drop header_size xs in
    let eight : length front ≡ header_size = length-take-le header_size xs (omega arith) in
    let left : length back ≡ length xs - header_size = length-drop header_size xs in
    let same : size_in front ≡ size_in xs = size-take xs in
    let all : header_size + length back ≡ length xs = omega arith in
    ap (λ (l : List ℕ). received l (parts h p 0)) (sym (take-append-drop header_size xs))
    ∙ received-append front back (parts h p 0)
    ∙ ap (received back)
    (received-header front (parts h p 0) (omega arith)
    ∙ ap₂ (λ (x : List ℕ) (n : ℕ). parts x p n) (sets-all h front (size ∙ sym eight)) (zero-add (length front) ∙ eight))
    ∙ received-payload back (parts front p header_size) (omega arith) (omega arith)
    ∙ ap (parts front (sets p 0 back)) all

-- an ack of one of the two sizes, as the list of its octets
pub record Ack (xs : List ℕ) : Type 0 where
  pub long : length xs ≡ message_length xs
  pub sized : (eqb (size_in xs) field_size || eqb (size_in xs) (field_size + field_size)) ≡ true
  pub most : length xs ≤ header_size + max_ack_payload

-- read whole by a guest, it is judged by the reader
pub ack-seen : (t : ℕ) (xs h p : List ℕ) → length h ≡ header_size → length p ≡ max_ack_payload → Ack xs
    → seen t (received xs (parts h p 0)) ≡ judged (read_ack t xs)
unfolding seen
ack-seen t xs h p size kept ack =
    let front = take header_size xs in
    let back = drop header_size xs in
    let read = parts front (sets p 0 back) (length xs) in
    let same : size_in front ≡ size_in xs = size-take xs in
    let left : length back ≡ size_in xs = length-drop header_size xs ∙ omega arith in
    let good : size_wrong read ≡ false = rw (same, ack.sized, le-leb header_size (length xs) (omega arith)) refl in
    let all : whole read ≡ true = le-leb (message_length front) (length xs) (omega arith) in
    let stored : sets p 0 back ≡ back ++ drop (0 + length back) p = sets-eq back p 0 (omega arith) in
    let octets : message_octets read ≡ xs =
    ap (λ (l : List ℕ). front ++ l) (ap₂ take same stored ∙ take_at back (drop (0 + length back) p) (size_in xs) left)
    ∙ take-append-drop header_size xs in
    rw (received-message xs h p size ack.long, good, all, octets) refl

-- the acks are of these sizes
payload-sizes : (r : Request) (st : ℕ)
    → (eqb (length (ack_payload r st)) field_size || eqb (length (ack_payload r st)) (field_size + field_size)) ≡ true
payload-sizes r st =
    by-test (λ (p : List ℕ). (eqb (length p) field_size || eqb (length p) (field_size + field_size)) ≡ true) (carries_flags r st) _ _
    (λ _. rw (length-append, length-octets field_size success, length-octets field_size all_flags) refl)
    (λ _. rw (length-octets field_size st) refl)

pub ack-made : (s : Settings) (t n : ℕ) (p : List ℕ) → Ack (ack_in (carried_out s t n p))
ack-made s t n p =
    let r = request_of t in
    let st = status_of r s.queues n p in
    let q = ack_payload r st in
    let short : length q ≤ 16 = payload-short r st in
    let size : size_in (message ack_type q) ≡ length q = rw message-is (size-header ack_type (length q) q (omega arith)) in
    rw (ack-is s t n p)
    (record {
      long = message-long ack_type q (omega arith);
      sized = rw size (payload-sizes r st);
      most = rw (length-message ack_type q) (omega arith);
    })
