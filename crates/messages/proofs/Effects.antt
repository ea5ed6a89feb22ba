-- What a request leaves, by its status: on a nonzero one the settings as before, on success its own effect.
use Rattle.octets.specs.Prelude.{◌≡◌, refl, ap, ◌∙◌, List, false, false≢true, ℕ, suc, ◌/◌, arith, eqb, eq-eqb, ne_eqb, eqb-true}
use lib.Dec.{eqb-suc-zero}
use Rattle.octets.proofs.Truth.{by-test, same_truth}
use Rattle.messages.proofs.AckOctets.{flags-success}
use Rattle.messages.specs.Wire.{field_size, success}
use Rattle.messages.specs.Settings.{mapping_of, Settings}
use Rattle.messages.specs.Requests.{Request, get_flags, set_flags, set_key, set_mapping, none, flags_in, key_in, entries_in, status_of}
use Rattle.messages.specs.Requests.{with_flags, with_key, with_mapping, replaced, carries_flags, answered, answered_flags, carried_by}
use Rattle.messages.specs.declared.Mapping.{Mapping}

module _ (r : Request) (s : Settings) (n : ℕ) (p : List ℕ) where
  pub carried-refused : (status : ℕ) → status_of r s.queues n p ≡ suc status → answered s (suc status) ≡ carried_by r s n p
  unfolding carried_by
  carried-refused status e =
      let no-flags = same_truth (carries_flags r (suc status)) false
      (λ f. absurd (omega (arith, (flags-success r _ f).1))) (λ f. absurd (false≢true f)) in
      rw (e, no-flags, eqb-suc-zero) refl

  carried-done : status_of r s.queues n p ≡ success → carries_flags r success ≡ false → answered (replaced r s n p) success ≡ carried_by r s n p
  unfolding carried_by
  carried-done e f = rw (e, f) refl

  pub settings-refused : (status_of r s.queues n p ≡ success → ⊥) → (carried_by r s n p).settings ≡ s
  unfolding carried_by
  settings-refused h = rw (ne_eqb _ _ h) refl

  pub settings-done : status_of r s.queues n p ≡ success → (carried_by r s n p).settings ≡ replaced r s n p
  unfolding carried_by
  settings-done e = rw (eq-eqb _ _ e) refl

  -- what holds of the settings before, and after a success, holds of those left
  pub settings-either : (P : Settings → Type 0) → P s → (status_of r s.queues n p ≡ success → P (replaced r s n p))
      → P (carried_by r s n p).settings
  unfolding carried_by
  settings-either P before after =
      by-test P (eqb (status_of r s.queues n p) success) _ _ (λ e. after (eqb-true _ _ e)) (λ e. before)

pub replaced-queues : (r : Request) (s : Settings) (n : ℕ) (p : List ℕ) → (replaced r s n p).queues ≡ s.queues
unfolding replaced
replaced-queues get_flags s n p = refl
replaced-queues set_flags s n p = refl
replaced-queues set_key s n p = refl
replaced-queues set_mapping s n p = refl
replaced-queues none s n p = refl

module _ (s : Settings) (n : ℕ) (p : List ℕ) where
  pub carried-flags : status_of get_flags s.queues n p ≡ success → answered_flags s ≡ carried_by get_flags s n p
  unfolding carried_by replaced
  carried-flags e = rw e refl

  pub flags-set : (flags : ℕ) → flags ≡ flags_in p → status_of set_flags s.queues n p ≡ success
      → answered (with_flags s flags) success ≡ carried_by set_flags s n p
  unfolding replaced
  flags-set flags f e = ap (λ (x : ℕ). answered (with_flags s x) success) f ∙ carried-done set_flags s n p e refl

  pub key_set : (key : List ℕ) → key ≡ key_in p → status_of set_key s.queues n p ≡ success → answered (with_key s key) success ≡ carried_by set_key s n p
  unfolding replaced
  key_set key k e = ap (λ (x : List ℕ). answered (with_key s x) success) k ∙ carried-done set_key s n p e refl

  pub mapping-set : (mapping : Mapping) → mapping ≡ mapping_of (entries_in (n / field_size) p) → status_of set_mapping s.queues n p ≡ success
      → answered (with_mapping s mapping) success ≡ carried_by set_mapping s n p
  unfolding replaced
  mapping-set mapping m e = ap (λ (x : Mapping). answered (with_mapping s x) success) m ∙ carried-done set_mapping s n p e refl
