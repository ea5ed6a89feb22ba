-- Octets of an area by their counts: a run that ends before the area's end is a part of the page, and any other is
-- such a run and another from the area's start.
use Rattle.octets.specs.Prelude.{◌≡◌, refl, sym, ap, ap₂, ◌∙◌, List, [], ◌∷◌, ◌++◌, ℕ, zero, suc, ◌+◌, ◌-◌, ◌%◌, ◌≤◌, add-zero}
use Rattle.octets.specs.Prelude.{zero-add, arith, length, get_or, set, take, drop, length-set, length-drop, length-append, take-append-drop, sets}
use Rattle.octets.specs.Prelude.{length-sets, length-take-le, drop-cons, take_at}
use borrow.Rule.Slice.PartMut.{put_mid}
use Rattle.octets.proofs.Copies.{sets-append, sets-all, part-sets}
use Rattle.page.specs.Page.{area_size, offsets, octets_in, put}

module _ (area : ℕ) (page : List ℕ) where
  -- places depend on the count modulo 1,024 only
  pub octets-same : (c d n : ℕ) → c % area_size ≡ d % area_size → octets_in area page c n ≡ octets_in area page d n
  unfolding octets_in offsets
  octets-same c d zero h = refl
  octets-same c d (suc n) h = rw (h, octets-same (c + 1) (d + 1) n (omega arith)) refl

  pub octets-length : (c n : ℕ) → length (octets_in area page c n) ≡ n
  unfolding octets_in offsets
  octets-length c zero = refl
  octets-length c (suc n) = ap suc (octets-length (c + 1) n)

  pub octets-suc : (c n : ℕ) → octets_in area page c (suc n) ≡ get_or page (area + c % area_size) 0 ∷ octets_in area page (c + 1) n
  unfolding octets_in offsets
  octets-suc c n = refl

  pub octets-none : (c : ℕ) → octets_in area page c 0 ≡ []
  unfolding octets_in offsets
  octets-none c = refl

  -- a + b octets are a octets, and then b more
  pub octets-add : (c a b : ℕ) → octets_in area page c (a + b) ≡ octets_in area page c a ++ octets_in area page (c + a) b
  octets-add c zero b =
      let first : octets_in area page c (0 + b) ≡ octets_in area page (c + 0) b = rw zero-add (octets-same c (c + 0) b (omega arith)) in
      rw (octets-none c) first
  octets-add c (suc a) b =
      let count : suc a + b ≡ suc (a + b) = omega arith in
      let more : octets_in area page (c + 1 + a) b ≡ octets_in area page (c + suc a) b = octets-same (c + 1 + a) (c + suc a) b (omega arith) in
      rw (count, octets-suc c (a + b), octets-add (c + 1) a b, more, octets-suc c a) refl

  -- octets that reach no further than the area's end are a part of the page
  pub octets-run : (c n : ℕ) → c % area_size + n ≤ area_size → area + area_size ≤ length page
      → octets_in area page c n ≡ take n (drop (area + c % area_size) page)
  octets-run c zero h l = octets-none c
  octets-run c (suc zero) h l = rw (octets-suc c 0, octets-none (c + 1), drop-cons page (area + c % area_size) 0 (omega arith)) refl
  octets-run c (suc (suc n)) h l =
      let next : area + (c + 1) % area_size ≡ suc (area + c % area_size) = omega arith in
      let rest : octets_in area page (c + 1) (suc n) ≡ take (suc n) (drop (suc (area + c % area_size)) page) =
      rw (← next) (octets-run (c + 1) (suc n) (omega arith) l) in
      octets-suc c (suc n)
      ∙ ap (λ (xs : List ℕ). get_or page (area + c % area_size) 0 ∷ xs) rest
      ∙ ap (take (suc (suc n))) (sym (drop-cons page (area + c % area_size) 0 (omega arith)))

  -- octets that reach over the area's end are two parts of the page
  pub octets-over : (c r n : ℕ) → r ≡ area_size - c % area_size → r ≤ n → n ≤ area_size → area + area_size ≤ length page
      → octets_in area page c n ≡ take r (drop (area + c % area_size) page) ++ take (n - r) (drop area page)
  octets-over c r n here h most l =
      let count : n ≡ r + (n - r) = omega arith in
      let seam : (c + r) % area_size ≡ 0 = omega arith in
      let start : area + (c + r) % area_size ≡ area = rw seam (add-zero area) in
      let second : octets_in area page (c + r) (n - r) ≡ take (n - r) (drop area page) =
      octets-run (c + r) (n - r) (omega arith) l ∙ ap (λ (k : ℕ). take (n - r) (drop k page)) start in
      ap (octets_in area page c) count
      ∙ octets-add c r (n - r)
      ∙ ap₂ (λ (xs ys : List ℕ). xs ++ ys) (octets-run c r (omega arith) l) second

-- two parts that make up the whole list
pub parts_whole : (d xs ys : List ℕ) (r n : ℕ) → length d ≡ n → r ≤ n → length xs ≡ r → length ys ≡ n - r
    → put_mid r (n - r) (put_mid 0 r d xs) ys ≡ xs ++ ys
parts_whole d xs ys r n long h lx ly =
    let first : put_mid 0 r d xs ≡ sets d 0 xs = part-sets d xs 0 r lx (omega arith) in
    let same : length (put_mid 0 r d xs) ≡ n = ap length first ∙ length-sets d 0 xs ∙ long in
    let place : r ≡ 0 + length xs = sym (zero-add (length xs) ∙ lx) in
    let all : length d ≡ length (xs ++ ys) = long ∙ sym (length-append xs ys ∙ omega arith) in
    part-sets (put_mid 0 r d xs) ys r (n - r) ly (omega arith)
    ∙ ap₂ (λ (e : List ℕ) (k : ℕ). sets e k ys) first place
    ∙ sym (sets-append d xs ys 0)
    ∙ sets-all d (xs ++ ys) all

module _ (area : ℕ) where
  pub put-suc : (page : List ℕ) (c x : ℕ) (xs : List ℕ) → put area page c (x ∷ xs) ≡ put area (set page (area + c % area_size) x) (c + 1) xs
  unfolding put
  put-suc page c x xs = refl

  pub put-none : (page : List ℕ) (c : ℕ) → put area page c [] ≡ page
  unfolding put
  put-none page c = refl

  pub put-length : (xs page : List ℕ) (c : ℕ) → length (put area page c xs) ≡ length page
  put-length [] page c = ap length (put-none page c)
  put-length (x ∷ xs) page c =
      ap length (put-suc page c x xs) ∙ put-length xs (set page (area + c % area_size) x) (c + 1) ∙ length-set page (area + c % area_size) x

  pub put_same : (xs page : List ℕ) (c d : ℕ) → c % area_size ≡ d % area_size → put area page c xs ≡ put area page d xs
  put_same [] page c d h = put-none page c ∙ sym (put-none page d)
  put_same (x ∷ xs) page c d h =
      put-suc page c x xs
      ∙ ap (λ (o : ℕ). put area (set page (area + o) x) (c + 1) xs) h
      ∙ put_same xs (set page (area + d % area_size) x) (c + 1) (d + 1) (omega arith)
      ∙ sym (put-suc page d x xs)

  -- octets of one list and then of another
  pub put-append : (xs ys page : List ℕ) (c : ℕ) → put area page c (xs ++ ys) ≡ put area (put area page c xs) (c + length xs) ys
  put-append [] ys page c = rw (put-none page c) (put_same ys page c (c + 0) (omega arith))
  put-append (x ∷ xs) ys page c =
      let p = set page (area + c % area_size) x in
      put-suc page c x (xs ++ ys)
      ∙ put-append xs ys p (c + 1)
      ∙ put_same ys (put area p (c + 1) xs) (c + 1 + length xs) (c + suc (length xs)) (omega arith)
      ∙ ap (λ (q : List ℕ). put area q (c + suc (length xs)) ys) (sym (put-suc page c x xs))

  -- octets that reach no further than the area's end are a run of stores
  pub put-run : (xs page : List ℕ) (c : ℕ) → c % area_size + length xs ≤ area_size → put area page c xs ≡ sets page (area + c % area_size) xs
  put-run [] page c h = put-none page c
  put-run (x ∷ []) page c h = put-suc page c x [] ∙ put-none (set page (area + c % area_size) x) (c + 1)
  put-run (x ∷ y ∷ xs) page c h =
      let p = set page (area + c % area_size) x in
      let next : area + (c + 1) % area_size ≡ suc (area + c % area_size) = omega arith in
      put-suc page c x (y ∷ xs) ∙ put-run (y ∷ xs) p (c + 1) (omega arith) ∙ ap (λ (k : ℕ). sets p k (y ∷ xs)) next

  -- octets that reach over the area's end are two such runs
  pub put-over : (xs page : List ℕ) (c r : ℕ) → r ≡ area_size - c % area_size → r ≤ length xs → length xs ≤ area_size
      → put area page c xs ≡ sets (sets page (area + c % area_size) (take r xs)) area (drop r xs)
  put-over xs page c r here h most =
      let first : length (take r xs) ≡ r = length-take-le r xs h in
      let second : length (drop r xs) ≡ length xs - r = length-drop r xs in
      let seam : (c + length (take r xs)) % area_size ≡ 0 = omega arith in
      let start : area + (c + length (take r xs)) % area_size ≡ area = rw seam (add-zero area) in
      ap (put area page c) (sym (take-append-drop r xs))
      ∙ put-append (take r xs) (drop r xs) page c
      ∙ put-run (drop r xs) (put area page c (take r xs)) (c + length (take r xs)) (omega arith)
      ∙ ap₂ (λ (p : List ℕ) (k : ℕ). sets p k (drop r xs)) (put-run (take r xs) page c (omega arith)) start

-- what a buffer holds once two runs of the page have been copied into it, the first of them as long as its part of the buffer is
module _ (area : ℕ) (page into ys : List ℕ) (l : area + area_size ≤ length page) (c r f : ℕ) (e : f ≡ r) (here : r ≡ area_size - c % area_size)
    (h : r ≤ length into) (most : length into ≤ area_size) (ey : ys ≡ take (length (take f into)) (drop (area + c % area_size) page)) where
  abbrev start : ℕ
  start = area + c % area_size

  first : ys ≡ take r (drop start page)
  first = ey ∙ ap (λ (k : ℕ). take k (drop start page)) (length-take-le f into (omega arith) ∙ e)

  front : length ys ≡ r
  front = ap length first ∙ length-take-le r (drop start page) (omega (arith, length-drop start page))

  pub read-parts : (zs : List ℕ) → zs ≡ take (length (take (length into - r) (drop r (put_mid 0 f into ys)))) (drop area page)
      → put_mid r (length into - r) (put_mid 0 f into ys) zs ≡ octets_in area page c (length into)
  read-parts zs ez =
      let n = length into in
      let same : length (put_mid 0 f into ys) ≡ n = ap length (part-sets into ys 0 f (front ∙ sym e) (omega arith)) ∙ length-sets into 0 ys in
      let rest : length (take (n - r) (drop r (put_mid 0 f into ys))) ≡ n - r =
      length-take-le (n - r) (drop r (put_mid 0 f into ys)) (omega (arith, length-drop r (put_mid 0 f into ys))) in
      let second : zs ≡ take (n - r) (drop area page) = ez ∙ ap (λ (k : ℕ). take k (drop area page)) rest in
      let more : length zs ≡ n - r = ap length second ∙ length-take-le (n - r) (drop area page) (omega (arith, length-drop area page)) in
      ap (λ (k : ℕ). put_mid r (n - r) (put_mid 0 k into ys) zs) e
      ∙ parts_whole into ys zs r n refl h front more
      ∙ ap₂ (λ (us vs : List ℕ). us ++ vs) first second
      ∙ sym (octets-over area page c r n here h most l)

-- the first octets of a run are a shorter run
pub octets-take : (area : ℕ) (page : List ℕ) (c k n : ℕ) → k ≤ n → take k (octets_in area page c n) ≡ octets_in area page c k
octets-take area page c k n h =
    let count : n ≡ k + (n - k) = omega arith in
    let xs = octets_in area page c k in
    let ys = octets_in area page (c + k) (n - k) in
    ap (λ (i : ℕ). take k (octets_in area page c i)) count
    ∙ ap (take k) (octets-add area page c k (n - k))
    ∙ take_at xs ys k (octets-length area page c k)
