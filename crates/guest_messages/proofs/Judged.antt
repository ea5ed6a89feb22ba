-- What the writer writes, the host judges by its content: each request's message carried out.
use Rattle.octets.specs.Prelude.{◌≡◌, refl, sym, ap, ◌∙◌, List, [], ◌++◌, true, cond, ℕ, ◌*◌, ◌/◌, ◌%◌, ◌^◌, ◌≤◌, arith, length, take_at}
use Rattle.octets.specs.Numbers.{number_at, octets_of}
use Rattle.octets.proofs.Numbers.{length-octets, number-octets}
use Rattle.octets.proofs.Truth.{by-test}
use Rattle.toeplitz.specs.Hash.{key_length}
use Rattle.messages.specs.Wire.{field_size, message, get_flags_type, set_flags_type, set_key_type, set_mapping_type, success, invalid_parameter, all_flags}
use Rattle.messages.specs.Settings.{max_entries, is_power_of_two, is_listed, EachBelow, mapping_of, Settings}
use Rattle.messages.specs.Requests.{set_mapping, request_of, entries_in, all_below, with_flags, with_key}
use Rattle.messages.specs.Requests.{with_mapping, answered, answered_flags, carried_by, carried_message}
use Rattle.messages.proofs.Powers.{listed-parts}
use Rattle.messages.proofs.Parts.{carried-message}
use Rattle.messages.proofs.Statuses.{get-flags-done, set-flags-done, set-key-done, set-mapping-entry, set-mapping-done}
use Rattle.messages.proofs.Effects.{carried-refused, carried-flags, flags-set, key_set, mapping-set}
use Rattle.guest_messages.specs.Writer.{fields_of}
use Rattle.guest_messages.proofs.Buffers.{length_fields}
use Rattle.guest_messages.proofs.Fields.{fields-entries}

module _ (s : Settings) (rest : List ℕ) where
  pub get-flags-carried : carried_message s (message get_flags_type []) rest ≡ answered_flags s
  unfolding request_of
  get-flags-carried =
      carried-message s get_flags_type [] rest (omega arith) (omega arith)
      ∙ sym (carried-flags s 0 rest (get-flags-done s.queues 0 rest refl))

  pub set-flags-carried : (flags : ℕ) → flags ≤ all_flags
      → carried_message s (message set_flags_type (octets_of field_size flags)) rest ≡ answered (with_flags s flags) success
  unfolding request_of
  set-flags-carried flags l =
      let p = octets_of field_size flags in
      let long : length p ≡ field_size = length-octets field_size flags in
      let read : number_at field_size (p ++ rest) 0 ≡ flags = number-octets field_size flags rest (omega arith) in
      carried-message s set_flags_type p rest (omega arith) (rw long (omega arith))
      ∙ sym (flags-set s (length p) (p ++ rest) flags (sym read) (set-flags-done s.queues (length p) (p ++ rest) long (rw read l)))

  pub set-key-carried : (key : List ℕ) → length key ≡ key_length
      → carried_message s (message set_key_type key) rest ≡ answered (with_key s key) success
  unfolding request_of
  set-key-carried key long =
      carried-message s set_key_type key rest (omega arith) (rw long (omega arith))
      ∙ sym
      (key_set s (length key) (key ++ rest) key (sym (take_at key rest key_length long))
      (set-key-done s.queues (length key) (key ++ rest) long))

module _ (s : Settings) (es rest : List ℕ) (small : EachBelow (256 ^ field_size) es) (listed : is_listed (length es) ≡ true) where
  pub set-mapping-carried : carried_message s (message set_mapping_type (fields_of es)) rest
      ≡ cond (all_below s.queues es) (answered (with_mapping s (mapping_of es)) success) (answered s invalid_parameter)
  unfolding request_of
  set-mapping-carried =
      let n = length (fields_of es) in
      let p = fields_of es ++ rest in
      let long : n ≡ length es * field_size = length_fields es in
      let parts = (listed-parts (length es)).0 listed in
      let count : n / field_size ≡ length es = omega arith in
      let multiple : n % field_size ≡ 0 = omega arith in
      let power : is_power_of_two (n / field_size) ≡ true = rw count parts.0 in
      let few : n / field_size ≤ max_entries = rw count parts.1 in
      let read : entries_in (n / field_size) p ≡ es = rw count (fields-entries es rest small) in
      carried-message s set_mapping_type (fields_of es) rest (omega arith) (omega arith)
      ∙ by-test (λ x. carried_by set_mapping s n p ≡ x) (all_below s.queues es) _ _
      (λ a. sym (mapping-set s n p (mapping_of es) (ap mapping_of (sym read)) (set-mapping-done _ _ _ multiple power few (rw read a))))
      (λ a. sym (carried-refused set_mapping s n p 1 (set-mapping-entry _ _ _ multiple power few (rw read a))))
