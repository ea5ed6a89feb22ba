-- Octets of a page that stores elsewhere leave as they were.
use Rattle.octets.specs.Prelude.{◌≡◌, refl, ap, ap₂, ◌∙◌, List, [], ◌∷◌, ◌⊎◌, inl, inr, ℕ, zero, suc, ◌+◌, ◌%◌, ◌^◌, ◌≤◌, ◌<◌}
use Rattle.octets.specs.Prelude.{arith, length, get_or, set, length-set, get_or-set_same, get_or-set_other}
use Rattle.page.proofs.Places.{octets-suc, octets-none, put-suc}
use Rattle.page.proofs.CountLaws.{count-beside, count-length, count-back, count-other}
use Rattle.page.specs.Page.{area_size, req_cons_at, req_prod_at, rsp_cons_at, rsp_prod_at, count_in, with_count, counted, counted_by_guest}
use Rattle.page.specs.Page.{offsets, octets_in, put}

-- an octet that is none of the host's counts: of the counts between them, or behind them
pub counted-between : (page : List ℕ) (c p i : ℕ) → 4 ≤ i → i < rsp_prod_at → get_or (counted page c p) i 0 ≡ get_or page i 0
counted-between page c p i low high =
    count-beside (with_count page req_cons_at c) rsp_prod_at p i (inl high) ∙ count-beside page req_cons_at c i (inr (omega arith))

pub counted-behind : (page : List ℕ) (c p i : ℕ) → 16 ≤ i → get_or (counted page c p) i 0 ≡ get_or page i 0
counted-behind page c p i high =
    count-beside (with_count page req_cons_at c) rsp_prod_at p i (inr (omega arith)) ∙ count-beside page req_cons_at c i (inr (omega arith))

pub counted-length : (page : List ℕ) (c p : ℕ) → length (counted page c p) ≡ length page
counted-length page c p = count-length (with_count page req_cons_at c) rsp_prod_at p ∙ count-length page req_cons_at c

-- an octet that is none of the guest's counts
pub guest-counted-beside : (page : List ℕ) (c p i : ℕ) → (i < req_prod_at) ⊎ (rsp_prod_at ≤ i)
    → get_or (counted_by_guest page c p) i 0 ≡ get_or page i 0
guest-counted-beside page c p i (inl low) =
    count-beside (with_count page rsp_cons_at c) req_prod_at p i (inl low) ∙ count-beside page rsp_cons_at c i (inl (omega arith))
guest-counted-beside page c p i (inr high) =
    count-beside (with_count page rsp_cons_at c) req_prod_at p i (inr (omega arith)) ∙ count-beside page rsp_cons_at c i (inr (omega arith))

pub guest-counted-length : (page : List ℕ) (c p : ℕ) → length (counted_by_guest page c p) ≡ length page
guest-counted-length page c p = count-length (with_count page rsp_cons_at c) req_prod_at p ∙ count-length page rsp_cons_at c

-- an octet at which none of xs is put
pub put_other : (area : ℕ) (xs page : List ℕ) (c i : ℕ)
    → ((j : ℕ) → j < length xs → i ≡ area + (c + j) % area_size → ⊥) → get_or (put area page c xs) i 0 ≡ get_or page i 0
unfolding put
put_other area [] page c i h = refl
put_other area (x ∷ xs) page c i h =
    put_other area xs (set page (area + c % area_size) x) (c + 1) i (λ j l e. h (suc j) (omega arith) (e ∙ omega arith))
    ∙ get_or-set_other page (area + c % area_size) i x 0 (λ e. h 0 (omega arith) (e ∙ omega arith))

-- octets of an area are the same in pages that agree there
pub octets-agree : (area : ℕ) (p q : List ℕ) → ((o : ℕ) → o < area_size → get_or p (area + o) 0 ≡ get_or q (area + o) 0)
    → (n c : ℕ) → octets_in area p c n ≡ octets_in area q c n
unfolding octets_in offsets
octets-agree area p q h zero c = refl
octets-agree area p q h (suc n) c = rw (h (c % area_size) (omega arith), octets-agree area p q h n (c + 1)) refl

-- so the areas do not change where own counts are written
pub counted-octets : (area : ℕ) (page : List ℕ) (a b n c : ℕ) → 16 ≤ area → octets_in area (counted page a b) c n ≡ octets_in area page c n
counted-octets area page a b n c h =
    octets-agree area (counted page a b) page (λ o l. counted-behind page a b (area + o) (omega arith)) n c

-- and where the guest's are
pub guest-counted-octets : (area : ℕ) (page : List ℕ) (a b n c : ℕ) → 16 ≤ area
    → octets_in area (counted_by_guest page a b) c n ≡ octets_in area page c n
guest-counted-octets area page a b n c h =
    octets-agree area (counted_by_guest page a b) page (λ o l. guest-counted-beside page a b (area + o) (inr (omega arith))) n c

-- the own counts are read back from the page
module _ (page : List ℕ) (c p : ℕ) (room : 16 ≤ length page) where
  pub counted-cons : c < 2 ^ 32 → count_in (counted page c p) req_cons_at ≡ c
  counted-cons small =
      count-other (with_count page req_cons_at c) rsp_prod_at p req_cons_at (inl (omega arith)) ∙ count-back page req_cons_at c (omega arith) small

  pub counted-prod : p < 2 ^ 32 → count_in (counted page c p) rsp_prod_at ≡ p
  counted-prod small =
      let size = count-length page req_cons_at c in
      count-back (with_count page req_cons_at c) rsp_prod_at p (omega arith) small

  pub guest-counted-cons : c < 2 ^ 32 → count_in (counted_by_guest page c p) rsp_cons_at ≡ c
  guest-counted-cons small =
      count-other (with_count page rsp_cons_at c) req_prod_at p rsp_cons_at (inr (omega arith)) ∙ count-back page rsp_cons_at c (omega arith) small

  pub guest-counted-prod : p < 2 ^ 32 → count_in (counted_by_guest page c p) req_prod_at ≡ p
  guest-counted-prod small =
      let size = count-length page rsp_cons_at c in
      count-back (with_count page rsp_cons_at c) req_prod_at p (omega arith) small

-- and the other end's are as they were
pub counted-others : (page : List ℕ) (c p at : ℕ) → 4 ≤ at → at + 4 ≤ rsp_prod_at → count_in (counted page c p) at ≡ count_in page at
counted-others page c p at low high =
    count-other (with_count page req_cons_at c) rsp_prod_at p at (inl (omega arith)) ∙ count-other page req_cons_at c at (inr (omega arith))

pub guest-counted-others : (page : List ℕ) (c p at : ℕ) → (at + 4 ≤ req_prod_at) ⊎ (rsp_prod_at ≤ at)
    → count_in (counted_by_guest page c p) at ≡ count_in page at
guest-counted-others page c p at (inl low) =
    count-other (with_count page rsp_cons_at c) req_prod_at p at (inl low) ∙ count-other page rsp_cons_at c at (inl (omega arith))
guest-counted-others page c p at (inr high) =
    count-other (with_count page rsp_cons_at c) req_prod_at p at (inr (omega arith)) ∙ count-other page rsp_cons_at c at (inr (omega arith))

-- octets put into an area stand there
pub put-stands : (area : ℕ) (xs page : List ℕ) (c : ℕ) → length xs ≤ area_size → area + area_size ≤ length page
    → octets_in area (put area page c xs) c (length xs) ≡ xs
put-stands area [] page c h l = octets-none area (put area page c []) c
put-stands area (x ∷ xs) page c h l =
    let place = area + c % area_size in
    let next = set page place x in
    let long = length-set page place x in
    let first : get_or (put area next (c + 1) xs) place 0 ≡ x =
    put_other area xs next (c + 1) place (λ j k e. omega arith) ∙ get_or-set_same page place x 0 (omega arith) in
    ap (λ (p : List ℕ). octets_in area p c (suc (length xs))) (put-suc area page c x xs)
    ∙ octets-suc area (put area next (c + 1) xs) c (length xs)
    ∙ ap₂ (λ (y : ℕ) (ys : List ℕ). y ∷ ys) first (put-stands area xs next (c + 1) (omega arith) (omega arith))
