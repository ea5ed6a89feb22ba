-- A count written to its place: it is read back from there, and all other octets of the page are as they were.
use Rattle.octets.specs.Prelude.{◌≡◌, refl, sym, ap, ◌∙◌, List, [], ◌∷◌, ◌⊎◌, inl, inr, ℕ, zero, suc, ◌+◌, ◌^◌, ◌≤◌, ◌<◌, add-zero, zero-add, arith}
use Rattle.octets.specs.Prelude.{length, get_or, set, length-set, sets, length-sets, get_or-set_same, get_or-set_other}
use Rattle.octets.specs.Numbers.{octets_of}
use Rattle.octets.proofs.Numbers.{length-octets, number_same, number-octets-alone}
use Rattle.page.specs.Page.{count_in, with_count}

-- stores at a run of places, and an octet before it, behind it or in it
sets-before : (vs l : List ℕ) (a i : ℕ) → i < a → get_or (sets l a vs) i 0 ≡ get_or l i 0
sets-before [] l a i h = refl
sets-before (v ∷ vs) l a i h = sets-before vs (set l a v) (suc a) i (omega arith) ∙ get_or-set_other l a i v 0 (λ e. omega arith)

sets_behind : (vs l : List ℕ) (a i : ℕ) → a + length vs ≤ i → get_or (sets l a vs) i 0 ≡ get_or l i 0
sets_behind [] l a i h = refl
sets_behind (v ∷ vs) l a i h = sets_behind vs (set l a v) (suc a) i (omega arith) ∙ get_or-set_other l a i v 0 (λ e. omega arith)

sets-at : (vs l : List ℕ) (a k : ℕ) → k < length vs → a + length vs ≤ length l → get_or (sets l a vs) (a + k) 0 ≡ get_or vs k 0
sets-at [] l a k h room = elim h [ ]
sets-at (v ∷ vs) l a zero h room = rw add-zero (sets-before vs (set l a v) (suc a) a (omega arith) ∙ get_or-set_same l a v 0 (omega arith))
sets-at (v ∷ vs) l a (suc k) h room =
    let place : a + suc k ≡ suc a + k = omega arith in
    let size = length-set l a v in
    ap (λ (i : ℕ). get_or (sets (set l a v) (suc a) vs) i 0) place ∙ sets-at vs (set l a v) (suc a) k (omega arith) (omega arith)

module _ (page : List ℕ) (at c : ℕ) where
  -- the octets that are not the count's
  pub count-beside : (i : ℕ) → (i < at) ⊎ (at + 4 ≤ i) → get_or (with_count page at c) i 0 ≡ get_or page i 0
  count-beside i (inl before) = sets-before (octets_of 4 c) page at i before
  count-beside i (inr behind) = sets_behind (octets_of 4 c) page at i (omega (arith, length-octets 4 c))

  pub count-length : length (with_count page at c) ≡ length page
  count-length = length-sets page at (octets_of 4 c)

  -- the count itself
  pub count-back : at + 4 ≤ length page → c < 2 ^ 32 → count_in (with_count page at c) at ≡ c
  count-back room small =
      let size = length-octets 4 c in
      number_same 4 (with_count page at c) (octets_of 4 c) at 0
      (λ k l. sets-at (octets_of 4 c) page at k (omega arith) (omega arith) ∙ ap (λ (i : ℕ). get_or (octets_of 4 c) i 0) (sym (zero-add k)))
      ∙ number-octets-alone 4 c (omega arith)

  -- another count
  pub count-other : (o : ℕ) → (o + 4 ≤ at) ⊎ (at + 4 ≤ o) → count_in (with_count page at c) o ≡ count_in page o
  count-other o (inl before) = number_same 4 (with_count page at c) page o o (λ k l. count-beside (o + k) (inl (omega arith)))
  count-other o (inr behind) = number_same 4 (with_count page at c) page o o (λ k l. count-beside (o + k) (inr (omega arith)))
