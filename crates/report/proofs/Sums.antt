-- Counts of every queue added up.
use Rattle.octets.specs.Prelude.{◌≡◌, refl, List, [], ◌∷◌, Bool, ℕ, zero, suc, ◌+◌, ◌<◌, arith, eqb, eq-eqb, ne_eqb}
use Rattle.report.specs.Counting.{tally_of, those, rising, sum_of}
use Rattle.report.specs.declared.Tally.{Tally}
use Rattle.report.proofs.Tallies.{Adds, packets-add, octets-add, those-one, those-none}

-- f 0 + f 1 + .. + f (n - 1)
abbrev sum : ℕ → (ℕ → ℕ) → ℕ
sum zero f = 0
sum (suc n) f = f 0 + sum n (λ (k : ℕ). f (suc k))

sum_same : (n : ℕ) (f g : ℕ → ℕ) → ((k : ℕ) → f k ≡ g k) → sum n f ≡ sum n g
sum_same zero f g h = refl
sum_same (suc n) f g h = omega (arith, h 0, sum_same n (λ k. f (suc k)) (λ k. g (suc k)) (λ k. h (suc k)))

sum-none : (n : ℕ) (f : ℕ → ℕ) → ((k : ℕ) → f k ≡ 0) → sum n f ≡ 0
sum-none zero f h = refl
sum-none (suc n) f h = omega (arith, h 0, sum-none n (λ k. f (suc k)) (λ k. h (suc k)))

-- w more at the index q alone
sum_more : (n q w : ℕ) (f g : ℕ → ℕ) → q < n → f q ≡ w + g q → ((k : ℕ) → (q ≡ k → ⊥) → f k ≡ g k) → sum n f ≡ w + sum n g
sum_more zero q w f g h e others = absurd (omega arith)
sum_more (suc n) zero w f g h e others =
    omega (arith, e, sum_same n (λ k. f (suc k)) (λ k. g (suc k)) (λ k. others (suc k) (λ z. omega (arith, z))))
sum_more (suc n) (suc q) w f g h e others =
    let more = sum_more n q w (λ k. f (suc k)) (λ k. g (suc k)) (omega arith) e (λ k d. others (suc k) (λ z. d (omega (arith, z)))) in
    omega (arith, others 0 (λ z. omega (arith, z)), more)

-- tallies added up, part by part
sum-tallies : (n : ℕ) (f : ℕ → Tally)
    → sum_of (rising n f) ≡ record { packets = sum n (λ (k : ℕ). (f k).packets); octets = sum n (λ (k : ℕ). (f k).octets) }
unfolding sum_of rising
sum-tallies zero f = refl
sum-tallies (suc n) f = rw (sum-tallies n (λ k. f (suc k))) refl

-- records whose queues are all below n
module _ (n : ℕ) (queue : List ℕ → ℕ) (below : (r : List ℕ) → queue r < n) where
  abbrev to : ℕ → List ℕ → Bool
  to k r = eqb (queue r) k

  -- counted queue by queue, they are all counted
  size-sum : {weight : List ℕ → ℕ} {size : List (List ℕ) → ℕ} → Adds weight size
      → (rs : List (List ℕ)) → sum n (λ (k : ℕ). size (those (to k) rs)) ≡ size rs
  size-sum {weight} {size} adds [] =
      omega (arith, sum-none n (λ (k : ℕ). size (those (to k) [])) (λ k. those-none adds (to k)), adds.none)
  size-sum {weight} {size} adds (r ∷ rs) =
      let q = queue r in
      let more = sum_more n q (weight r) (λ (k : ℕ). size (those (to k) (r ∷ rs))) (λ (k : ℕ). size (those (to k) rs)) (below r)
      (rw (eq-eqb q q refl) at (those-one adds (to q) r rs))
      (λ k other. omega (arith, rw (ne_eqb q k other) at (those-one adds (to k) r rs))) in
      omega (arith, more, size-sum adds rs, adds.one r rs)

  pub tallies-sum : (rs : List (List ℕ)) → sum_of (rising n (λ (k : ℕ). tally_of (those (λ (r : List ℕ). eqb (queue r) k) rs))) ≡ tally_of rs
  tallies-sum rs = rw (sum-tallies n (λ (k : ℕ). tally_of (those (to k) rs)), size-sum packets-add rs, size-sum octets-add rs) refl
