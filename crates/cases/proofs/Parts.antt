-- The case that octets begin with, as its head and what is behind the head give it.
use Rattle.octets.specs.Prelude.{◌≡◌, ap, ◌∙◌, List, [], ℕ, ◌+◌, ◌≤◌, ◌<◌, arith, refl, length, take, drop, drop-drop}
use Rattle.octets.specs.Prelude.{get_or, get_or-take, le-leb, lt-leb}
use Rattle.octets.specs.Numbers.{number_at}
use Rattle.octets.proofs.Numbers.{number_same}
use Rattle.cases.specs.Taking.{head, body_length, case_end, no_kind, kind_in, body_in, behind_case}

-- octets that hold no head
pub no-head : (xs : List ℕ) → length xs < head → (kind_in xs ≡ no_kind) × (body_in xs ≡ []) × (behind_case xs ≡ [])
no-head xs short = let cut = lt-leb (case_end xs) (length xs) (omega arith) in (rw cut refl, rw cut refl, rw cut refl)

module _ (xs first rest : List ℕ) (n : ℕ) (is : first ≡ take head xs) (behind : rest ≡ drop head xs) (long : length rest + head ≡ length xs)
    (read : n ≡ number_at 2 first 1)
  where
    size : n ≡ body_length xs
    size = read ∙ ap (λ (l : List ℕ). number_at 2 l 1) is
        ∙ number_same 2 (take head xs) xs 1 1 (λ k l. get_or-take head xs (1 + k) 0 (omega arith))

    -- a case cut short
    pub cut-short : length rest < n → (kind_in xs ≡ no_kind) × (body_in xs ≡ []) × (behind_case xs ≡ [])
    cut-short short = let cut = lt-leb (case_end xs) (length xs) (omega (arith, size)) in (rw cut refl, rw cut refl, rw cut refl)

    -- a whole one
    pub whole-case : n ≤ length rest → (get_or first 0 0 ≡ kind_in xs) × (take n rest ≡ body_in xs) × (drop n rest ≡ behind_case xs)
    whole-case fits =
        let whole = le-leb (case_end xs) (length xs) (omega (arith, size)) in
        let kind = get_or-take head xs 0 0 (omega arith) in
        (rw (whole, is) kind, rw (whole, ← size, ← behind) refl, rw (whole, ← size, behind, drop-drop n head xs) refl)
