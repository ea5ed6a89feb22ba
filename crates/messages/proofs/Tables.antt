-- Entries of a payload, one after the other; and tables whose entries are all below the queue count.
use Rattle.octets.specs.Prelude.{◌≡◌, refl, sym, ap, ap₂, ◌∙◌, List, [], ◌∷◌, ◌++◌, ◌↔◌, true, false, false≢true, ℕ, zero, suc, ◌+◌}
use Rattle.octets.specs.Prelude.{◌-◌, ◌*◌, ◌≤◌, ◌<◌, arith, length, get_or, drop, set, replicate, ltb, lt-ltb, ltb-true}
use native.Mathlib.Nat.{zero-mul}
use lib.Seq.{set_at, append_snoc}
use Rattle.std.specs.Prelude.{◌&&◌}
use Rattle.octets.specs.Prelude.{Bool}
use Rattle.octets.specs.Numbers.{number_at}
use Rattle.octets.proofs.Numbers.{number-drop}
use Rattle.octets.proofs.Truth.{same_truth, both_true}
use Rattle.messages.specs.Settings.{max_entries, EachBelow, mapping_of}
use Rattle.messages.specs.Requests.{entries_in, all_below}

pub length-entries : (n : ℕ) (p : List ℕ) → length (entries_in n p) ≡ n
unfolding entries_in
length-entries zero p = refl
length-entries (suc n) p = ap suc (length-entries n (drop 8 p))

-- entry k stands at octet k * 8
pub entry_at : (n : ℕ) (p : List ℕ) (k : ℕ) → k < n → get_or (entries_in n p) k 0 ≡ number_at 8 p (k * 8)
unfolding entries_in
entry_at zero p k l = absurd (omega arith)
entry_at (suc n) p zero l = ap (λ (i : ℕ). number_at 8 p i) (sym (zero-mul 8))
entry_at (suc n) p (suc k) l =
    entry_at n (drop 8 p) k (omega arith) ∙ number-drop 8 8 p (k * 8) ∙ ap (λ (i : ℕ). number_at 8 p i) (omega arith)

-- one entry more
pub entries_next : (n : ℕ) (p : List ℕ) → entries_in (n + 1) p ≡ entries_in n p ++ (number_at 8 p (n * 8) ∷ [])
unfolding entries_in
entries_next zero p = ap (λ (i : ℕ). number_at 8 p i ∷ []) (sym (zero-mul 8))
entries_next (suc n) p =
    let count : suc n + 1 ≡ suc (n + 1) = omega arith in
    let place : 8 + n * 8 ≡ suc n * 8 = omega arith in
    ap (λ (k : ℕ). entries_in k p) count
    ∙ ap (λ (t : List ℕ). number_at 8 p 0 ∷ t) (entries_next n (drop 8 p))
    ∙ ap (λ (x : ℕ). number_at 8 p 0 ∷ entries_in n (drop 8 p) ++ (x ∷ [])) (number-drop 8 8 p (n * 8) ∙ ap (λ (i : ℕ). number_at 8 p i) place)

test-each : (q : ℕ) (xs : List ℕ) → all_below q xs ≡ true → EachBelow q xs
unfolding all_below
test-each q [] e i l = absurd (omega arith)
test-each q (x ∷ xs) e zero l = ltb-true _ _ ((both_true (ltb x q) (all_below q xs)).0 e).0
test-each q (x ∷ xs) e (suc i) l = test-each q xs ((both_true (ltb x q) (all_below q xs)).0 e).1 i (omega arith)

each-test : (q : ℕ) (xs : List ℕ) → EachBelow q xs → all_below q xs ≡ true
unfolding all_below
each-test q [] h = refl
each-test q (x ∷ xs) h = rw (lt-ltb _ _ (h 0 (omega arith))) (each-test q xs (λ i l. h (suc i) (omega arith)))

-- each number is below q exactly if the test says so
pub all-below-exactly : (q : ℕ) (xs : List ℕ) → (all_below q xs ≡ true) ↔ EachBelow q xs
all-below-exactly q xs = (test-each q xs, each-test q xs)

below-snoc : (q x : ℕ) (xs : List ℕ) → x < q → all_below q xs ≡ true → all_below q (xs ++ (x ∷ [])) ≡ true
unfolding all_below
below-snoc q x [] h a = rw (lt-ltb _ _ h) refl
below-snoc q x (y ∷ xs) h a =
    let b = (both_true (ltb y q) (all_below q xs)).0 a in
    rw b.0 (below-snoc q x xs h b.1)

-- whether one more is below q too
below-more : (q x : ℕ) (xs : List ℕ) → all_below q (xs ++ (x ∷ [])) ≡ all_below q xs && ltb x q
unfolding all_below
below-more q x [] = by (ltb x q)
  where
    by : (b : Bool) → b && true ≡ b
    by true = refl
    by false = refl
below-more q x (y ∷ xs) = by (ltb y q) (below-more q x xs)
  where
    by : (b : Bool) → all_below q (xs ++ (x ∷ [])) ≡ all_below q xs && ltb x q
        → b && all_below q (xs ++ (x ∷ [])) ≡ (b && all_below q xs) && ltb x q
    by true e = e
    by false e = refl

pub below_with : (q : ℕ) (p : List ℕ) (k x : ℕ) (b : Bool) → b ≡ all_below q (entries_in k p) → x ≡ number_at 8 p (k * 8)
    → b && ltb x q ≡ all_below q (entries_in (k + 1) p)
below_with q p k x b h e = rw (entries_next, ← e, h) (sym (below-more q x (entries_in k p)))

-- with the first k entries below q: entry k is below it too, or it is not
pub below_next : (q : ℕ) (p : List ℕ) (k x : ℕ) → x ≡ number_at 8 p (k * 8) → x < q → all_below q (entries_in k p) ≡ true
    → all_below q (entries_in (k + 1) p) ≡ true
below_next q p k x e h a = rw (entries_next, ← e) (below-snoc q x (entries_in k p) h a)

pub not-below : (q n : ℕ) (p : List ℕ) (k x : ℕ) → k < n → x ≡ number_at 8 p (k * 8) → q ≤ x → all_below q (entries_in n p) ≡ false
not-below q n p k x l e h =
    let it : get_or (entries_in n p) k 0 ≡ x = entry_at n p k l ∙ sym e in
    same_truth (all_below q (entries_in n p)) false
    (λ a. absurd (omega (arith, test-each q (entries_in n p) a k (rw length-entries l)))) (λ f. absurd (false≢true f))

-- an entry among those that are below q
pub entry-below : (q n : ℕ) (p : List ℕ) (k x : ℕ) → EachBelow q (entries_in n p) → k < n → x ≡ number_at 8 p (k * 8) → x < q
entry-below q n p k x h l e = rw (e, ← entry_at n p k l) (h k (rw length-entries l))

-- entries below a count of queues fit an octet
pub below-octets : (q : ℕ) (xs : List ℕ) → q < 256 → all_below q xs ≡ true → EachBelow 256 xs
below-octets q xs h a i l = omega (arith, test-each q xs a i l)

-- the array with one entry more
pub stored_next : (k x : ℕ) (p table : List ℕ) → k < max_entries → x ≡ number_at 8 p (k * 8) → table ≡ (mapping_of (entries_in k p)).entries
    → set table k x ≡ (mapping_of (entries_in (k + 1) p)).entries
stored_next k x p table l e h =
    let E = entries_in k p in
    let R : List ℕ = replicate (max_entries - (k + 1)) 0 in
    let room : max_entries - length E ≡ suc (max_entries - (k + 1)) = ap (λ (n : ℕ). max_entries - n) (length-entries k p) ∙ omega arith in
    let before : table ≡ E ++ 0 ∷ R = h ∙ ap (λ (n : ℕ). E ++ replicate {A = ℕ} n 0) room in
    let longer : E ++ (x ∷ []) ≡ entries_in (k + 1) p = ap (λ (y : ℕ). E ++ (y ∷ [])) e ∙ sym (entries_next k p) in
    let left : k + 1 ≡ length (entries_in (k + 1) p) = sym (length-entries (k + 1) p) in
    ap (λ (t : List ℕ). set t k x) before
    ∙ set_at E 0 R x k (length-entries k p)
    ∙ sym (append_snoc E x R)
    ∙ ap₂ (λ (t : List ℕ) (n : ℕ). t ++ replicate (max_entries - n) 0) longer left

pub stored-all : (k : ℕ) (p table : List ℕ) → table ≡ (mapping_of (entries_in k p)).entries
    → record { entries = table; count = k } ≡ mapping_of (entries_in k p)
stored-all k p table h = ap₂ (λ (t : List ℕ) (n : ℕ). record { entries = t; count = n }) h (sym (length-entries k p))
