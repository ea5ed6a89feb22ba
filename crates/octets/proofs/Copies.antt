-- One step of a copy into the start of a list, and its end; and runs of stores, one behind another, over a whole list, and as a
-- part of a list that was lent.
use Rattle.octets.specs.Prelude.{◌≡◌, sym, ap, ◌∙◌, List, [], ◌∷◌, ◌++◌, append-nil, append_assoc, ℕ, zero, suc, ◌+◌, ◌≤◌, ◌<◌, add-zero}
use Rattle.octets.specs.Prelude.{zero-add, add-one, arith, length, get_or, set, take, drop, drop_of_length-le, drop-drop, sets, sets-eq}
use Rattle.octets.specs.Prelude.{take_all, drop-cons, drop_at, length-take-le}
use borrow.Rule.Slice.PartMut.{put_mid}
use lib.Seq.{paste-suc}

pub copied_next : (d s e : List ℕ) (i : ℕ) → i < length d → i < length s → e ≡ take i s ++ drop i d
    → set e i (get_or s i 0) ≡ take (i + 1) s ++ drop (i + 1) d
copied_next d s e i hd hs h = rw (h, add-one) (simp zero-add at (paste-suc d 0 s i 0 (rw zero-add hd) hs))

-- the same of n octets at once
pub copied_some : (n : ℕ) (d s e : List ℕ) (i : ℕ) → i + n ≤ length d → i + n ≤ length s → e ≡ take i s ++ drop i d
    → sets e i (take n (drop i s)) ≡ take (i + n) s ++ drop (i + n) d
copied_some zero d s e i hd hs h = rw add-zero h
copied_some (suc n) d s e i hd hs h =
    let first : i < length s = omega arith in
    let next = rw add-one at (copied_next d s e i (omega arith) first h) in
    let rest = copied_some n d s (set e i (get_or s i 0)) (suc i) (omega arith) (omega arith) next in
    let same : suc i + n ≡ i + suc n = omega arith in
    rw (drop-cons s i 0 first, ← same) rest

-- what is copied so far has the source's first octets at its start
pub copied-start : (d s : List ℕ) (r : ℕ) → r ≤ length s → take r s ++ drop r d ≡ take r s ++ drop r (take r s ++ drop r d)
copied-start d s r h = ap (λ (x : List ℕ). take r s ++ x) (sym (drop_at (take r s) (drop r d) r (length-take-le r s h)))

pub copied_all : (d s e : List ℕ) (i : ℕ) → length s ≡ length d → length s ≤ i → e ≡ take i s ++ drop i d → e ≡ s
copied_all d s e i h u q = q ∙ simp (take_all i s u, drop_of_length-le d {i = i} (omega arith), append-nil)

pub sets-append : (l xs ys : List ℕ) (i : ℕ) → sets l i (xs ++ ys) ≡ sets (sets l i xs) (i + length xs) ys
sets-append l [] ys i = ap (λ (k : ℕ). sets l k ys) (sym (add-zero i))
sets-append l (x ∷ xs) ys i =
    sets-append (set l i x) xs ys (suc i) ∙ ap (λ (k : ℕ). sets (sets (set l i x) (suc i) xs) k ys) (omega arith)

-- stores over a whole list
pub sets-all : (l vs : List ℕ) → length l ≡ length vs → sets l 0 vs ≡ vs
sets-all l vs h =
    let end : 0 + length vs ≡ length l = zero-add (length vs) ∙ sym h in
    sets-eq vs l 0 (omega arith) ∙ rw (drop_of_length-le l {i = 0 + length vs} (omega arith)) (append-nil vs)

-- a part of a list that was lent and came back with ys
pub part-sets : (d ys : List ℕ) (a k : ℕ) → length ys ≡ k → a + k ≤ length d → put_mid a k d ys ≡ sets d a ys
part-sets d ys a k e h =
    sym
    (sets-eq ys d a (rw e h)
    ∙ append_assoc (take a d) ys (drop (a + length ys) d)
    ∙ ap (λ (n : ℕ). take a d ++ (ys ++ drop (a + n) d)) e
    ∙ ap (λ (xs : List ℕ). take a d ++ (ys ++ xs)) (sym (drop-drop k a d)))
