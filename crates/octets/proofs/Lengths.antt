-- A list of a known length is its elements, so what holds of every such list of variables holds of it.
use Rattle.octets.specs.Prelude.{◌≡◌, List, [], ◌∷◌, ℕ, zero, suc, arith, length}

-- P of every list of n elements, an element at a time
abbrev pub Each : ℕ → (List ℕ → Type 0) → Type 0
Each zero P = P []
Each (suc n) P = (x : ℕ) → Each n (λ (l : List ℕ). P (x ∷ l))

pub by_length : (n : ℕ) (P : List ℕ → Type 0) → Each n P → (l : List ℕ) → length l ≡ n → P l
by_length zero P each [] e = each
by_length zero P each (x ∷ l) e = absurd (omega arith)
by_length (suc n) P each [] e = absurd (omega arith)
by_length (suc n) P each (x ∷ l) e = by_length n (λ (m : List ℕ). P (x ∷ m)) (each x) l (omega arith)
