-- What readers ask of the guest's writer and ack reader, and of the two ends together, over the definitions alone.
use Rattle.octets.specs.Prelude.{◌≡◌, refl, sym, ap, ◌∙◌, ◌↔◌, List, [], Bool, true, false, cond, false≢true, ℕ, ◌+◌, ◌*◌, ◌^◌, ◌<◌, arith}
use Rattle.octets.specs.Prelude.{length, take, drop, eqb, leb, ne_eqb, eqb-true, eqb-false, lt-leb, leb-true, leb-false}
use Rattle.octets.specs.Numbers.{AreOctets, octets_of}
use Rattle.octets.specs.Outcome.{Outcome, value, refused}
use Rattle.octets.proofs.Truth.{chain, neither}
use Rattle.octets.proofs.Numbers.{length-octets}
use Rattle.octets.proofs.Outcomes.{value_same, test-value}
use Rattle.toeplitz.specs.Hash.{key_length}
use Rattle.toeplitz.specs.Refusals.{key_length_wrong}
use Rattle.messages.specs.Wire.{field_size, message, get_flags_type, set_flags_type, set_key_type, set_mapping_type, success, invalid_parameter, all_flags}
use Rattle.messages.specs.Settings.{is_listed, EachBelow, table_of, mapping_of, Settings}
use Rattle.messages.specs.Requests.{request_of, all_below, status_of, ack_in, ack_status}
use Rattle.messages.specs.Requests.{with_flags, with_key, with_mapping, answered, answered_flags, carried_out, carried_message}
use Rattle.messages.proofs.Parts.{length-message}
use Rattle.messages.proofs.Statuses.{status-most}
use Rattle.messages.proofs.Tables.{all-below-exactly}
use Rattle.messages.proofs.Goodness.{table-stored}
use Rattle.messages.proofs.Theorems.{ack-is, answered-status}
use Rattle.guest_messages.specs.Refusals.{buffer_too_short, value_not_listed}
use Rattle.guest_messages.specs.Reader.{Reading, status, status_and_flags, answer_to, read_ack, ack_outcome_of, encoded}
use Rattle.guest_messages.specs.Writer.{fields_of, get_flags_message, set_flags_message, set_key_message, set_mapping_message, written, written_outcome_of}
use Rattle.std.specs.Prelude.{Result, Ok, Err}
use Rattle.guest_messages.specs.declared.WriteRefusal.{WriteRefusal}
use Rattle.guest_messages.specs.declared.WriteRefusal.TheVariants.{KeyLength, Value, Buffer}
use Rattle.guest_messages.specs.declared.AckRead.{AckRead}
use Rattle.guest_messages.specs.declared.AckRead.TheVariants.{Status, Flags}
use Rattle.guest_messages.specs.declared.NotAnAck.{NotAnAck}
use Rattle.guest_messages.proofs.Buffers.{length_fields}
use Rattle.guest_messages.proofs.Leaves.{refused-keeps, message-left, message-refused, answer-short, refuses-first}
use Rattle.guest_messages.proofs.Judged.{get-flags-carried, set-flags-carried, set-key-carried, set-mapping-carried}
use Rattle.guest_messages.proofs.Encodings.{read-value, ack-encoded}
use Rattle.guest_messages.proofs.Answers.{status-allowed, read_back}

-- the readings of the answers keep them apart, so the contracts leave the answers no choice
unfoldable written-answer : Outcome ℕ → Result ℕ WriteRefusal
written-answer (value n) = Ok n
written-answer (refused k) = Err (cond (eqb k key_length_wrong) KeyLength (cond (eqb k buffer_too_short) Buffer Value))

written-answer-back : (r : Result ℕ WriteRefusal) → written-answer (written_outcome_of r) ≡ r
unfolding written-answer
written-answer-back (Ok n) = refl
written-answer-back (Err KeyLength) = refl
written-answer-back (Err Value) = refl
written-answer-back (Err Buffer) = refl

pub written-answer-determined : (r s : Result ℕ WriteRefusal) → written_outcome_of r ≡ written_outcome_of s → r ≡ s
written-answer-determined r s e = sym (written-answer-back r) ∙ ap written-answer e ∙ written-answer-back s

unfoldable ack-answer : Outcome Reading → Result AckRead NotAnAck
ack-answer (value (status st)) = Ok (Status st)
ack-answer (value (status_and_flags st flags)) = Ok (Flags flags)
ack-answer (refused k) = Err (record {})

ack-answer-back : (r : Result AckRead NotAnAck) → ack-answer (ack_outcome_of r) ≡ r
unfolding ack-answer
ack-answer-back (Ok (Status st)) = refl
ack-answer-back (Ok (Flags flags)) = refl
ack-answer-back (Err _) = refl

pub ack-answer-determined : (r s : Result AckRead NotAnAck) → ack_outcome_of r ≡ ack_outcome_of s → r ≡ s
ack-answer-determined r s e = sym (ack-answer-back r) ∙ ap ack-answer e ∙ ack-answer-back s

-- the messages of the four requests have 8, 16, 48, and 8 and 8 times the entries, octets
pub message-lengths : (length (message get_flags_type []) ≡ 8)
    × ((flags : ℕ) → length (message set_flags_type (octets_of field_size flags)) ≡ 16)
    × ((key : List ℕ) → length key ≡ key_length → length (message set_key_type key) ≡ 48)
    × ((es : List ℕ) → length (message set_mapping_type (fields_of es)) ≡ 8 + length es * 8)
message-lengths = (
  length-message get_flags_type [],
  λ flags. length-message set_flags_type (octets_of field_size flags) ∙ rw length-octets refl,
  λ key e. length-message set_key_type key ∙ rw e refl,
  λ es. length-message set_mapping_type (fields_of es) ∙ rw length_fields refl,
)

-- a refusal leaves the buffer as it was
pub refused-keeps-buffer : (o : Outcome (List ℕ)) (b : List ℕ) (k : ℕ) → (written o b).answer ≡ refused k → (written o b).buffer ≡ b
refused-keeps-buffer = refused-keeps

-- the answer is the message's length, the message stands at the start, and the octets behind it are unchanged
pub length-answered : (m b : List ℕ) (n : ℕ) → (written (value m) b).answer ≡ value n → n ≡ length m
length-answered m b n e = (message-left m b n e).0

pub message-at-start : (m b : List ℕ) (n : ℕ) → (written (value m) b).answer ≡ value n → take n (written (value m) b).buffer ≡ m
message-at-start m b n e = (message-left m b n e).1

pub octets-behind-stay : (m b : List ℕ) (n : ℕ) → (written (value m) b).answer ≡ value n → drop n (written (value m) b).buffer ≡ drop n b
octets-behind-stay m b n e = (message-left m b n e).2

-- 8 for a key that is not 40 octets, 11 for flags above 15 or a mapping length that is not listed, and only then 10
module _ (b : List ℕ) where
  pub refuses-key : (key : List ℕ) → ((written (set_key_message key) b).answer ≡ refused key_length_wrong) ↔ (length key ≡ key_length → ⊥)
  refuses-key key =
      let x = refuses-first (message set_key_type key) b key_length_wrong (λ e. omega arith) (eqb (length key) key_length) in
      (λ e. eqb-false _ _ (x.0 e), λ h. x.1 (ne_eqb _ _ h))

  pub refuses-flags : (flags : ℕ) → ((written (set_flags_message flags) b).answer ≡ refused value_not_listed) ↔ (all_flags < flags)
  refuses-flags flags =
      let x = refuses-first (message set_flags_type (octets_of field_size flags)) b value_not_listed (λ e. omega arith) (leb flags all_flags) in
      (λ e. leb-false _ _ (x.0 e), λ h. x.1 (lt-leb _ _ h))

  pub refuses-mapping : (es : List ℕ) → ((written (set_mapping_message es) b).answer ≡ refused value_not_listed) ↔ (is_listed (length es) ≡ false)
  refuses-mapping es = refuses-first (message set_mapping_type (fields_of es)) b value_not_listed (λ e. omega arith) (is_listed (length es))

  pub refuses-buffer : (m : List ℕ) → ((written (value m) b).answer ≡ refused buffer_too_short) ↔ (length b < length m)
  refuses-buffer m = (λ e. (message-refused m b buffer_too_short e).1, answer-short m b)

  pub earlier-refusal : (k : ℕ) → written (refused k) b ≡ record { answer = refused k; buffer = b }
  unfolding written
  earlier-refusal k = refl

-- what the writer writes, the host judges by its content, whatever octets are kept behind the message
module _ (s : Settings) (m rest : List ℕ) where
  -- get flags: the flags that are supported, and the settings as they stood
  pub written-get-flags : get_flags_message ≡ value m → carried_message s m rest ≡ answered_flags s
  written-get-flags e = rw (← value_same _ _ e) (get-flags-carried s rest)

  -- set flags: success for all flags that the writer takes, and they are set
  pub written-set-flags : (flags : ℕ) → set_flags_message flags ≡ value m → carried_message s m rest ≡ answered (with_flags s flags) success
  written-set-flags flags e =
      let x = test-value (leb flags all_flags) (message set_flags_type (octets_of field_size flags)) m _ e in
      rw (← x.1) (set-flags-carried s rest flags (leb-true _ _ x.0))

  -- set key: success, and the key is stored octet for octet as written
  pub written-set-key : (key : List ℕ) → set_key_message key ≡ value m → carried_message s m rest ≡ answered (with_key s key) success
  written-set-key key e =
      let x = test-value (eqb (length key) key_length) (message set_key_type key) m _ e in
      rw (← x.1) (set-key-carried s rest key (eqb-true _ _ x.0))

  -- set mapping, of entries that each fit their eight octets
  module _ (es : List ℕ) (small : EachBelow (256 ^ field_size) es) (e : set_mapping_message es ≡ value m) where
    pub written-set-mapping : carried_message s m rest
        ≡ cond (all_below s.queues es) (answered (with_mapping s (mapping_of es)) success) (answered s invalid_parameter)
    written-set-mapping =
        let x = test-value (is_listed (length es)) (message set_mapping_type (fields_of es)) m _ e in
        rw (← x.1) (set-mapping-carried s es rest small x.0)

    -- success exactly if every entry is below the queue count
    pub written-mapping-exactly : (ack_status (carried_message s m rest) ≡ success) ↔ EachBelow s.queues es
    written-mapping-exactly = rw written-set-mapping (chain (by (all_below s.queues es)) (all-below-exactly s.queues es))
      where
        by : (t : Bool)
            → (ack_status (cond t (answered (with_mapping s (mapping_of es)) success) (answered s invalid_parameter)) ≡ success) ↔ (t ≡ true)
        by true = (λ h. refl, λ a. answered-status (with_mapping s (mapping_of es)) success (omega arith))
        by false = neither (λ h. omega (arith, answered-status s invalid_parameter (omega arith))) false≢true

    -- and then those entries are the table
    pub written-entries-are-table : EachBelow s.queues es → table_of (carried_message s m rest).settings.mapping ≡ es
    written-entries-are-table h =
        rw (written-set-mapping, (all-below-exactly s.queues es).1 h) (table-stored es)

-- what the host answers, the reader accepts: told the request's type, it gives back the status and any flags
pub reader-accepts-ack : (s : Settings) (t n : ℕ) (p : List ℕ)
    → read_ack t (ack_in (carried_out s t n p)) ≡ value (answer_to (request_of t) (status_of (request_of t) s.queues n p))
reader-accepts-ack s t n p =
    let r = request_of t in
    ap (read_ack t) (ack-is s t n p)
    ∙ read_back t (status_of r s.queues n p) (status-most s.queues n p r) (status-allowed r s.queues n p)

-- a message that the reader accepts is determined by what it answers: there is no second encoding
pub accepted-is-encoding : (t : ℕ) (m : List ℕ) (v : Reading) → AreOctets m → read_ack t m ≡ value v → m ≡ encoded v
accepted-is-encoding t m v o e =
    let x = read-value t m v e in
    ack-encoded m o (request_of t) x.0 ∙ ap encoded x.1

pub one-encoding : (t u : ℕ) (m n : List ℕ) (v : Reading) → AreOctets m → AreOctets n → read_ack t m ≡ value v → read_ack u n ≡ value v → m ≡ n
one-encoding t u m n v o p e f = accepted-is-encoding t m v o e ∙ sym (accepted-is-encoding u n v p f)
