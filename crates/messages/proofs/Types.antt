-- The request of a type, case by case.
use Rattle.octets.specs.Prelude.{◌≡◌, refl, false, cond, ℕ, eqb, eqb-true, eqb-false}
use Rattle.octets.proofs.Truth.{by-test}
use Rattle.messages.specs.Wire.{get_flags_type, set_flags_type, set_key_type, set_mapping_type}
use Rattle.messages.specs.Requests.{Request, get_flags, set_flags, set_key, set_mapping, none, request_of, carries_flags}

by-type : (P : Request → Type 0) (t k : ℕ) (r other : Request) → (t ≡ k → P r) → ((t ≡ k → ⊥) → P other) → P (cond (eqb t k) r other)
by-type P t k r other is not = by-test P (eqb t k) r other (λ e. is (eqb-true _ _ e)) (λ e. not (eqb-false _ _ e))

-- what holds of each request for its type, and of none for any other type, holds of the request of a type
pub request-cases : (P : Request → Type 0) (t : ℕ)
    → (t ≡ get_flags_type → P get_flags)
    → (t ≡ set_flags_type → P set_flags)
    → (t ≡ set_key_type → P set_key)
    → (t ≡ set_mapping_type → P set_mapping)
    → ((t ≡ get_flags_type → ⊥) → (t ≡ set_flags_type → ⊥) → (t ≡ set_key_type → ⊥) → (t ≡ set_mapping_type → ⊥) → P none)
    → P (request_of t)
unfolding request_of
request-cases P t two three four five other =
    by-type P t get_flags_type _ _ two (λ n2.
    by-type P t set_flags_type _ _ three (λ n3.
    by-type P t set_key_type _ _ four (λ n4.
    by-type P t set_mapping_type _ _ five (λ n5. other n2 n3 n4 n5))))

-- a type other than get flags has no flags in its ack
pub no-flags : (t status : ℕ) → (t ≡ get_flags_type → ⊥) → carries_flags (request_of t) status ≡ false
no-flags t status not =
    request-cases (λ (r : Request). carries_flags r status ≡ false) t (λ two. absurd (not two)) (λ _. refl) (λ _. refl) (λ _. refl) (λ _ _ _ _. refl)
