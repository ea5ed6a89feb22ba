-- The hash type with a number.
use Rattle.std.specs.Prelude.{Result, Ok, Err}
use Rattle.octets.specs.Prelude.{◌≡◌, refl, sym, ap, ◌∙◌, ℕ, zero, suc, cond, ◌≤◌, ◌<◌, arith, eqb, eqb-true, eqb-false}
use Rattle.octets.proofs.Truth.{by-test}
use Rattle.toeplitz.specs.TwoWay.{last_type, type_number, type_of}
use Rattle.toeplitz.specs.declared.TwoWayRefusal.{TwoWayRefusal}
use Rattle.toeplitz.specs.declared.TwoWayRefusal.TheVariants.{UnknownType}
use Rattle.toeplitz.specs.declared.HashType.{HashType}
use Rattle.toeplitz.specs.declared.HashType.TheVariants.{Ipv4, Ipv4Tcp, Ipv6, Ipv6Tcp}

by-number : (P : Result HashType TwoWayRefusal → Type 0) (n k : ℕ) (r other : Result HashType TwoWayRefusal)
    → (n ≡ k → P r) → ((n ≡ k → ⊥) → P other) → P (cond (eqb n k) r other)
by-number P n k r other is not = by-test P (eqb n k) r other (λ e. is (eqb-true _ _ e)) (λ e. not (eqb-false _ _ e))

-- what holds of each type for its number, and of the refusal for any other, holds of the type with a number
type-cases : (P : Result HashType TwoWayRefusal → Type 0) (n : ℕ)
    → (n ≡ 0 → P (Ok Ipv4))
    → (n ≡ 1 → P (Ok Ipv4Tcp))
    → (n ≡ 2 → P (Ok Ipv6))
    → (n ≡ 3 → P (Ok Ipv6Tcp))
    → (last_type < n → P (Err UnknownType))
    → P (type_of n)
unfolding type_of
type-cases P n is0 is1 is2 is3 other =
    by-number P n 0 _ _ is0 (λ n0.
    by-number P n 1 _ _ is1 (λ n1.
    by-number P n 2 _ _ is2 (λ n2.
    by-number P n 3 _ _ is3 (λ n3. other (omega (arith, n0, n1, n2, n3))))))

abbrev Known : ℕ → Result HashType TwoWayRefusal → Type 0
Known n r = (t : HashType) → Ok t ≡ r → (type_number t ≡ n) × (n ≤ last_type)

abbrev Unknown : ℕ → Result HashType TwoWayRefusal → Type 0
Unknown n r = (e : TwoWayRefusal) → Err e ≡ r → (e ≡ UnknownType) × (last_type < n)

named : (n k : ℕ) (u : HashType) → type_number u ≡ k → k ≤ last_type → n ≡ k → Known n (Ok u)
named n k u number least same t e = let is : t ≡ u = cc in (ap type_number is ∙ number ∙ sym same, omega arith)

-- a type has the number that it is named by, which is at most 3
pub type-known : (n : ℕ) → Known n (type_of n)
type-known n =
    type-cases (Known n) n (named n 0 Ipv4 refl (omega arith)) (named n 1 Ipv4Tcp refl (omega arith)) (named n 2 Ipv6 refl (omega arith))
    (named n 3 Ipv6Tcp refl (omega arith)) (λ above t e. absurd cc)

-- a number that names none is above 3
pub type-unknown : (n : ℕ) → Unknown n (type_of n)
type-unknown n =
    type-cases (Unknown n) n (λ _ e h. absurd cc) (λ _ e h. absurd cc) (λ _ e h. absurd cc) (λ _ e h. absurd cc) (λ above e h. (cc, above))

-- the number of a type keeps types apart
pub type-named : ℕ → HashType
type-named zero = Ipv4
type-named (suc zero) = Ipv4Tcp
type-named (suc (suc zero)) = Ipv6
type-named (suc (suc (suc n))) = Ipv6Tcp

pub type-named-back : (t : HashType) → type-named (type_number t) ≡ t
unfolding type-named
type-named-back Ipv4 = refl
type-named-back Ipv4Tcp = refl
type-named-back Ipv6 = refl
type-named-back Ipv6Tcp = refl
