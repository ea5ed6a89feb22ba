-- The lowest number that passes a test: `lowest` finds it exactly.
use Rattle.octets.specs.Prelude.{◌≡◌, refl, sym, ap, ap₂, ◌∙◌, ◌↔◌, ◌⊎◌, inl, inr, ⊎_elim, Bool, true, false, ℕ, zero, suc, ◌<◌, ℕ_discrete, arith}
use Rattle.toeplitz.specs.TwoWay.{Verdict, agree, differ_at, or_at, lowest}

-- no number below n passes; b is the first that does
abbrev pub NoneBelow : (ℕ → Bool) → ℕ → Type 0
NoneBelow f n = (k : ℕ) → k < n → f k ≡ false

abbrev pub FirstAt : (ℕ → Bool) → ℕ → ℕ → Type 0
FirstAt f n b = (b < n) × (f b ≡ true) × NoneBelow f b

lowest-none : (f : ℕ → Bool) (n : ℕ) → NoneBelow f n → lowest f n ≡ agree
unfolding lowest
lowest-none f zero h = refl
lowest-none f (suc n) h =
    ap₂ (λ (x : Verdict) (t : Bool). or_at x t n) (lowest-none f n (λ k l. h k (omega arith))) (h n (omega arith))

lowest-first : (f : ℕ → Bool) (n b : ℕ) → FirstAt f n b → lowest f n ≡ differ_at b
unfolding lowest
lowest-first f zero b h = absurd (omega arith)
lowest-first f (suc n) b h =
    elim (ℕ_discrete b n) [
      | yes q ↦
          ap₂ (λ (x : Verdict) (t : Bool). or_at x t n) (lowest-none f n (λ k m. h.2 k (omega arith))) (ap f (sym q) ∙ h.1)
          ∙ ap differ_at (sym q)
      | no d ↦ ap (λ (x : Verdict). or_at x (f n) n) (lowest-first f n b (omega arith, h.1, h.2))
    ]

or-agree : (v : Verdict) (t : Bool) (n : ℕ) → or_at v t n ≡ agree → (v ≡ agree) × (t ≡ false)
or-agree agree true n s = let z : ◌≡◌ {A = ℕ} 0 1 = cc in absurd (omega arith)
or-agree agree false n s = (refl, refl)
or-agree (differ_at b) t n s = let z : ◌≡◌ {A = ℕ} 0 1 = cc in absurd (omega arith)

or-differ : (v : Verdict) (t : Bool) (n b : ℕ) → or_at v t n ≡ differ_at b
    → (v ≡ differ_at b) ⊎ ((v ≡ agree) × (t ≡ true) × (n ≡ b))
or-differ agree true n b s = inr (refl, refl, cc)
or-differ agree false n b s = let z : ◌≡◌ {A = ℕ} 0 1 = cc in absurd (omega arith)
or-differ (differ_at c) t n b s = inl s

none-lowest : (f : ℕ → Bool) (n : ℕ) → lowest f n ≡ agree → NoneBelow f n
unfolding lowest
none-lowest f zero e k h = absurd (omega arith)
none-lowest f (suc n) e k h =
    let both = or-agree (lowest f n) (f n) n e in
    elim (ℕ_discrete k n) [ yes q ↦ ap f q ∙ both.1 | no d ↦ none-lowest f n both.0 k (omega arith) ]

first-lowest : (f : ℕ → Bool) (n b : ℕ) → lowest f n ≡ differ_at b → FirstAt f n b
unfolding lowest
first-lowest f zero b e = let z : ◌≡◌ {A = ℕ} 0 1 = cc in absurd (omega arith)
first-lowest f (suc n) b e =
    ⊎_elim
    (λ q. let r = first-lowest f n b q in (omega arith, r.1, r.2))
    (λ q. (omega arith, ap f (sym q.2) ∙ q.1, λ k l. none-lowest f n q.0 k (omega arith)))
    (or-differ (lowest f n) (f n) n b e)

pub agree-exactly : (f : ℕ → Bool) (n : ℕ) → (lowest f n ≡ agree) ↔ NoneBelow f n
agree-exactly f n = (none-lowest f n, lowest-none f n)

pub differ-exactly : (f : ℕ → Bool) (n b : ℕ) → (lowest f n ≡ differ_at b) ↔ FirstAt f n b
differ-exactly f n b = (first-lowest f n b, lowest-first f n b)

-- equal tests find the same
pub lowest-same : (f g : ℕ → Bool) (n : ℕ) → ((k : ℕ) → k < n → f k ≡ g k) → lowest f n ≡ lowest g n
unfolding lowest
lowest-same f g zero h = refl
lowest-same f g (suc n) h =
    ap₂ (λ (x : Verdict) (t : Bool). or_at x t n) (lowest-same f g n (λ k l. h k (omega arith))) (h n (omega arith))
