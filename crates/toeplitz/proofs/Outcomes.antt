-- A call that refuses 8 for a key's length, then r for a number n above its limit: when it answers its value, and when
-- each refusal. Both calls are of this kind.
use Rattle.octets.specs.Prelude.{◌≡◌, refl, sym, ap, ap₂, ◌∙◌, List, ◌↔◌, Bool, true, false, cond, ℕ, ◌≤◌, ◌<◌, length, eqb, leb}
use Rattle.octets.specs.Prelude.{eq-eqb, ne_eqb, eqb-true, eqb-false, le-leb, lt-leb, leb-true, leb-false}
use Rattle.octets.specs.Outcome.{Outcome, value, refused}
use Rattle.octets.proofs.Outcomes.{value_same, refused-same, value-not-refused}
use Rattle.toeplitz.specs.Refusals.{key_length_wrong}
use Rattle.toeplitz.specs.Hash.{key_length}

module _ {A : Type 0} (v : A) (r : ℕ) where
  -- by what the two tests say
  abbrev judged : Bool → Bool → Outcome A
  judged s t = cond s (cond t (value v) (refused r)) (refused key_length_wrong)

  if-value : (s t : Bool) (x : A) → judged s t ≡ value x → (s ≡ true) × (t ≡ true) × (v ≡ x)
  if-value true true x e = (refl, refl, value_same v x e)
  if-value true false x e = absurd (value-not-refused x r (sym e))
  if-value false t x e = absurd (value-not-refused x key_length_wrong (sym e))

  if-key : (r ≡ key_length_wrong → ⊥) → (s t : Bool) → judged s t ≡ refused key_length_wrong → s ≡ false
  if-key d true true e = absurd (value-not-refused v key_length_wrong e)
  if-key d true false e = absurd (d (refused-same r key_length_wrong e))
  if-key d false t e = refl

  if-limit : (r ≡ key_length_wrong → ⊥) → (s t : Bool) → judged s t ≡ refused r → (s ≡ true) × (t ≡ false)
  if-limit d true true e = absurd (value-not-refused v r e)
  if-limit d true false e = (refl, refl)
  if-limit d false t e = absurd (d (sym (refused-same key_length_wrong r e)))

module _ {A : Type 0} (v : A) (r : ℕ) (key : List ℕ) (n limit : ℕ) where
  abbrev pub outcome : Outcome A
  outcome = judged v r (eqb (length key) key_length) (leb n limit)

  pub value-exactly : (x : A) → (outcome ≡ value x) ↔ ((length key ≡ key_length) × (n ≤ limit) × (v ≡ x))
  value-exactly x = (
    λ e. let q = if-value v r (eqb (length key) key_length) (leb n limit) x e in (eqb-true _ _ q.0, leb-true _ _ q.1, q.2),
    λ q. ap₂ (judged v r) (eq-eqb _ _ q.0) (le-leb _ _ q.1) ∙ ap value q.2,
  )

  pub key-refused-exactly : (r ≡ key_length_wrong → ⊥) → (outcome ≡ refused key_length_wrong) ↔ (length key ≡ key_length → ⊥)
  key-refused-exactly d = (
    λ e. eqb-false _ _ (if-key v r d (eqb (length key) key_length) (leb n limit) e),
    λ q. ap (λ (s : Bool). judged v r s (leb n limit)) (ne_eqb _ _ q),
  )

  pub limit-refused-exactly : (r ≡ key_length_wrong → ⊥) → (outcome ≡ refused r) ↔ ((length key ≡ key_length) × (limit < n))
  limit-refused-exactly d = (
    λ e. let q = if-limit v r d (eqb (length key) key_length) (leb n limit) e in (eqb-true _ _ q.0, leb-false _ _ q.1),
    λ q. ap₂ (judged v r) (eq-eqb _ _ q.0) (lt-leb _ _ q.1),
  )
