-- Tests that are true together are equal, a test of two parts is true where both are, and a choice by a test;
-- and statements that hold together.
use Rattle.octets.specs.Prelude.{◌≡◌, refl, sym, ◌↔◌, Bool, true, false, cond, ◌&&◌, false≢true}

pub same_truth : (a b : Bool) → (a ≡ true → b ≡ true) → (b ≡ true → a ≡ true) → a ≡ b
same_truth true b f g = sym (f refl)
same_truth false true f g = g refl
same_truth false false f g = refl

pub both_true : (a b : Bool) → ((a && b) ≡ true) ↔ ((a ≡ true) × (b ≡ true))
both_true true b = (λ e. (refl, e), λ x. x.1)
both_true false b = (λ e. absurd (false≢true e), λ x. absurd (false≢true x.0))

-- what holds of each side where the test picks it holds of the choice
pub by-test : {A : Type 0} (P : A → Type 0) (t : Bool) (a b : A) → (t ≡ true → P a) → (t ≡ false → P b) → P (cond t a b)
by-test P true a b p q = p refl
by-test P false a b p q = q refl

-- choices by one test are related where both their sides are
pub same_test : {A : Type 0} (R : A → A → Type 0) (t : Bool) (a b x y : A) → R a x → R b y → R (cond t a b) (cond t x y)
same_test R true a b x y l r = l
same_test R false a b x y l r = r

-- one equivalence after the other, two statements of which neither holds, and one beside what is known
pub chain : {A B C : Type 0} → A ↔ B → B ↔ C → A ↔ C
chain p q = (λ a. q.0 (p.0 a), λ c. p.1 (q.1 c))

pub neither : {A B : Type 0} → (A → ⊥) → (B → ⊥) → A ↔ B
neither p q = (λ a. absurd (p a), λ b. absurd (q b))

pub beside : {A B K : Type 0} → K → A ↔ B → A ↔ (K × B)
beside k p = (λ a. (k, p.0 a), λ x. p.1 x.1)
