-- What of a payload a request looks at: the octets that its header counts, and none where it counts more than are kept.
use Rattle.octets.specs.Prelude.{◌≡◌, refl, sym, ap, ◌∙◌, List, cond, ℕ, ◌+◌, ◌*◌, ◌/◌, ◌%◌, ◌≤◌, ◌<◌, arith}
use Rattle.octets.specs.Prelude.{get_or, take, get_or-take, eqb, leb, eqb-true, leb-true}
use lib.Seq.{ext_get_or}
use Rattle.octets.specs.Numbers.{number_at}
use Rattle.octets.proofs.Numbers.{number_same}
use Rattle.toeplitz.specs.Hash.{key_length}
use Rattle.messages.specs.Wire.{max_payload, field_size, success, invalid_parameter, all_flags}
use Rattle.messages.specs.Settings.{max_entries, is_power_of_two, mapping_of, Settings}
use Rattle.messages.specs.Requests.{Request, get_flags, set_flags, set_key, set_mapping, none, flags_in, key_in, entries_in, all_below, check}
use Rattle.messages.specs.Requests.{status_of, with_flags, with_key, with_mapping, replaced, carried_by}
use Rattle.messages.proofs.Checks.{check-same}
use Rattle.messages.proofs.Statuses.{set-flags-exactly, set-key-exactly, set-mapping-exactly}
use Rattle.messages.proofs.Tables.{length-entries, entry_at}

module _ (n : ℕ) (p p' : List ℕ) (same : take n p ≡ take n p') where
  octet-same : (i : ℕ) → i < n → get_or p i 0 ≡ get_or p' i 0
  octet-same i l = sym (get_or-take n p i 0 l) ∙ ap (λ (x : List ℕ). get_or x i 0) same ∙ get_or-take n p' i 0 l

  field-same : (i : ℕ) → i + field_size ≤ n → number_at field_size p i ≡ number_at field_size p' i
  field-same i l = number_same field_size p p' i i (λ k h. octet-same (i + k) (omega arith))

  entries-same : (k : ℕ) → k * field_size ≤ n → entries_in k p ≡ entries_in k p'
  entries-same k l =
      ext_get_or 0 (entries_in k p) (entries_in k p') (length-entries k p ∙ sym (length-entries k p'))
      (λ i h. let b : i < k = rw length-entries at h in
      entry_at k p i b ∙ field-same (i * field_size) (omega arith) ∙ sym (entry_at k p' i b))

-- two payloads that agree as far as the header counts them, where they are kept at all
module _ (s : Settings) (n : ℕ) (p p' : List ℕ) (same : n ≤ max_payload → take n p ≡ take n p') where
  flags-same : n ≡ field_size → flags_in p ≡ flags_in p'
  flags-same e = field-same n p p' (same (omega arith)) 0 (omega arith)

  key-same : n ≡ key_length → key_in p ≡ key_in p'
  key-same e = rw e at (same (omega arith))

  table_same : n % field_size ≡ 0 → n / field_size ≤ max_entries → entries_in (n / field_size) p ≡ entries_in (n / field_size) p'
  table_same m l = entries-same n p p' (same (omega arith)) (n / field_size) (omega arith)

  pub status-same : (r : Request) (q : ℕ) → status_of r q n p ≡ status_of r q n p'
  unfolding status_of
  status-same get_flags q = refl
  status-same set_flags q =
      check-same (eqb n field_size) _ _ _ (λ t. ap (λ (f : ℕ). check (leb f all_flags) invalid_parameter success) (flags-same (eqb-true _ _ t)))
  status-same set_key q = refl
  status-same set_mapping q =
      check-same (eqb (n % field_size) 0) _ _ _ (λ multiple.
      check-same (is_power_of_two (n / field_size)) _ _ _ (λ power.
      check-same (leb (n / field_size) max_entries) _ _ _ (λ few.
      ap (λ (e : List ℕ). check (all_below q e) invalid_parameter success) (table_same (eqb-true _ _ multiple) (leb-true _ _ few)))))
  status-same none q = refl

  replaced-same : (r : Request) → status_of r s.queues n p ≡ success → replaced r s n p ≡ replaced r s n p'
  unfolding replaced
  replaced-same get_flags e = refl
  replaced-same set_flags e = ap (with_flags s) (flags-same ((set-flags-exactly s.queues n p).0 e).0)
  replaced-same set_key e = ap (with_key s) (key-same ((set-key-exactly s.queues n p).0 e))
  replaced-same set_mapping e =
      let x = (set-mapping-exactly s.queues n p).0 e in
      ap (λ (t : List ℕ). with_mapping s (mapping_of t)) (table_same x.multiple x.few)
  replaced-same none e = refl

  pub carried_same : (r : Request) → carried_by r s n p ≡ carried_by r s n p'
  unfolding carried_by
  carried_same r =
      let passed = eqb (status_of r s.queues n p) success in
      let settings : cond passed (replaced r s n p) s ≡ cond passed (replaced r s n p') s =
      check-same passed s _ _ (λ t. replaced-same r (eqb-true _ _ t)) in
      rw (settings, status-same r s.queues) refl
