-- Texts that grow: nothing added, one octet added, and one growth after another.
use Rattle.octets.specs.Prelude.{◌≡◌, sym, ap, ◌∙◌, refl, List, [], ◌∷◌, ◌++◌, append_assoc, append-nil, ℕ, ◌+◌, ◌<◌, add-one}
use Rattle.octets.specs.Prelude.{length, get_or, take}
use lib.Seq.{take-suc}
use Rattle.text.specs.Text.{Adds, Prints}
use Rattle.text.specs.declared.Text.{Text}

pub adds_none : (t : Text) → Adds t [] t
adds_none t = sym (append-nil t)

pub adds_then : (t r s : Text) (xs ys : List ℕ) → Adds t xs r → Adds r ys s → Adds t (xs ++ ys) s
adds_then t r s xs ys a b = b ∙ ap (λ (l : List ℕ). l ++ ys) a ∙ append_assoc t xs ys

-- growth from an empty text, and from a text that prints xs
pub prints : (t r : Text) (xs : List ℕ) → t ≡ [] → Adds t xs r → Prints r xs
prints t r xs e a = a ∙ ap (λ (l : List ℕ). l ++ xs) e

pub prints-then : (t r : Text) (xs ys : List ℕ) → Prints t xs → Adds t ys r → Prints r (xs ++ ys)
prints-then t r xs ys p a = a ∙ ap (λ (l : List ℕ). l ++ ys) p

-- an octet at the end
pub adds-octet : (t : Text) (b : ℕ) → Adds t (b ∷ []) (t ++ b ∷ [])
adds-octet t b = refl

-- the next octet of a list of which i were added
pub adds-next : (t r s : Text) (xs : List ℕ) (i : ℕ) → i < length xs → Adds t (take i xs) r → Adds r (get_or xs i 0 ∷ []) s
    → Adds t (take (i + 1) xs) s
adds-next t r s xs i h a b = rw (add-one, take-suc xs i 0) (adds_then t r s (take i xs) (get_or xs i 0 ∷ []) a b)
