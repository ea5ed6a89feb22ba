-- The rows of the table of requests, one by one: which check fails, and the status that follows; or none fails.
use Rattle.octets.specs.Prelude.{◌≡◌, refl, List, ◌↔◌, true, false, ℕ, ◌/◌, ◌%◌, ◌≤◌, ◌<◌, arith, eqb, leb, eq-eqb, ne_eqb}
use Rattle.octets.specs.Prelude.{eqb-true, le-leb, lt-leb, leb-true}
use Rattle.toeplitz.specs.Hash.{key_length}
use Rattle.messages.specs.Wire.{field_size, success, not_supported, invalid_parameter, buffer_overflow, all_flags}
use Rattle.messages.specs.Settings.{max_entries, is_power_of_two}
use Rattle.messages.specs.Requests.{Request, get_flags, set_flags, set_key, set_mapping, none, flags_in, entries_in, all_below, status_of}
use Rattle.messages.proofs.Checks.{check-passed, check-most}

module _ (q n : ℕ) (p : List ℕ) where
  pub get-flags-size : (n ≡ 0 → ⊥) → status_of get_flags q n p ≡ invalid_parameter
  unfolding status_of
  get-flags-size h = rw (ne_eqb _ _ h) refl

  pub get-flags-done : n ≡ 0 → status_of get_flags q n p ≡ success
  unfolding status_of
  get-flags-done h = rw (eq-eqb _ _ h) refl

  pub set-flags-size : (n ≡ field_size → ⊥) → status_of set_flags q n p ≡ invalid_parameter
  unfolding status_of
  set-flags-size h = rw (ne_eqb _ _ h) refl

  pub set-flags-value : n ≡ field_size → all_flags < flags_in p → status_of set_flags q n p ≡ invalid_parameter
  unfolding status_of
  set-flags-value h v = rw (eq-eqb _ _ h, lt-leb _ _ v) refl

  pub set-flags-done : n ≡ field_size → flags_in p ≤ all_flags → status_of set_flags q n p ≡ success
  unfolding status_of
  set-flags-done h v = rw (eq-eqb _ _ h, le-leb _ _ v) refl

  pub set-key-size : (n ≡ key_length → ⊥) → status_of set_key q n p ≡ invalid_parameter
  unfolding status_of
  set-key-size h = rw (ne_eqb _ _ h) refl

  pub set-key-done : n ≡ key_length → status_of set_key q n p ≡ success
  unfolding status_of
  set-key-done h = rw (eq-eqb _ _ h) refl

  pub set-mapping-remainder : (n % field_size ≡ 0 → ⊥) → status_of set_mapping q n p ≡ invalid_parameter
  unfolding status_of
  set-mapping-remainder h = rw (ne_eqb _ _ h) refl

  pub set-mapping-power : n % field_size ≡ 0 → is_power_of_two (n / field_size) ≡ false → status_of set_mapping q n p ≡ invalid_parameter
  unfolding status_of
  set-mapping-power h e = rw (eq-eqb _ _ h, e) refl

  pub set-mapping-many : n % field_size ≡ 0 → is_power_of_two (n / field_size) ≡ true → max_entries < n / field_size
      → status_of set_mapping q n p ≡ buffer_overflow
  unfolding status_of
  set-mapping-many h e l = rw (eq-eqb _ _ h, e, lt-leb _ _ l) refl

  module _ (h : n % field_size ≡ 0) (e : is_power_of_two (n / field_size) ≡ true) (l : n / field_size ≤ max_entries) where
    pub set-mapping-entry : all_below q (entries_in (n / field_size) p) ≡ false → status_of set_mapping q n p ≡ invalid_parameter
    unfolding status_of
    set-mapping-entry a = rw (eq-eqb _ _ h, e, le-leb _ _ l, a) refl

    pub set-mapping-done : all_below q (entries_in (n / field_size) p) ≡ true → status_of set_mapping q n p ≡ success
    unfolding status_of
    set-mapping-done a = rw (eq-eqb _ _ h, e, le-leb _ _ l, a) refl

  pub none-supported : status_of none q n p ≡ not_supported
  unfolding status_of
  none-supported = refl

  -- when each request succeeds
  pub get-flags-exactly : (status_of get_flags q n p ≡ success) ↔ (n ≡ 0)
  unfolding status_of
  get-flags-exactly = (λ e. eqb-true _ _ (check-passed (eqb n 0) _ _ e).0, get-flags-done)

  pub set-flags-exactly : (status_of set_flags q n p ≡ success) ↔ ((n ≡ field_size) × (flags_in p ≤ all_flags))
  unfolding status_of
  set-flags-exactly = (
    λ e. let size = check-passed (eqb n field_size) _ _ e in
        (eqb-true _ _ size.0, leb-true _ _ (check-passed (leb (flags_in p) all_flags) _ _ size.1).0),
    λ x. set-flags-done x.0 x.1,
  )

  pub set-key-exactly : (status_of set_key q n p ≡ success) ↔ (n ≡ key_length)
  unfolding status_of
  set-key-exactly = (λ e. eqb-true _ _ (check-passed (eqb n key_length) _ _ e).0, set-key-done)

  -- a set mapping passes its four checks
  pub record MappingPasses : Type 0 where
    pub multiple : n % field_size ≡ 0
    pub power : is_power_of_two (n / field_size) ≡ true
    pub few : n / field_size ≤ max_entries
    pub below : all_below q (entries_in (n / field_size) p) ≡ true

  pub set-mapping-exactly : (status_of set_mapping q n p ≡ success) ↔ MappingPasses
  unfolding status_of
  set-mapping-exactly = (
    λ e. let size = check-passed (eqb (n % field_size) 0) _ _ e in
        let power = check-passed (is_power_of_two (n / field_size)) _ _ size.1 in
        let few = check-passed (leb (n / field_size) max_entries) _ _ power.1 in
        let below = check-passed (all_below q (entries_in (n / field_size) p)) _ _ few.1 in
        record { multiple = eqb-true _ _ size.0; power = power.0; few = leb-true _ _ few.0; below = below.0 },
    λ x. set-mapping-done x.multiple x.power x.few x.below,
  )

  -- no status is above 3
  pub status-most : (r : Request) → status_of r q n p ≤ buffer_overflow
  unfolding status_of
  status-most get_flags = check-most (eqb n 0) _ _ _ (omega arith) (omega arith)
  status-most set_flags = check-most (eqb n field_size) _ _ _ (omega arith) (check-most (leb (flags_in p) all_flags) _ _ _ (omega arith) (omega arith))
  status-most set_key = check-most (eqb n key_length) _ _ _ (omega arith) (omega arith)
  status-most set_mapping =
      check-most (eqb (n % field_size) 0) _ _ _ (omega arith)
      (check-most (is_power_of_two (n / field_size)) _ _ _ (omega arith)
      (check-most (leb (n / field_size) max_entries) _ _ _ (omega arith)
      (check-most (all_below q (entries_in (n / field_size) p)) _ _ _ (omega arith) (omega arith))))
  status-most none = omega arith
