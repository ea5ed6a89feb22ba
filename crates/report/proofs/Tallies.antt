-- Laws of what is counted: record by record, and queue by queue.
use Rattle.std.specs.Prelude.{slice_index_or, slice_set}
use Rattle.std.proofs.Math.Seq.{take-set-lt}
use Rattle.octets.specs.Prelude.{length-take, get_or-take, take}
use Rattle.octets.specs.Prelude.{◌≡◌, refl, ◌∙◌, ap₂, List, [], ◌∷◌, Bool, true, false, cond, ℕ, zero, suc, ◌+◌, ◌≤◌, ◌<◌, arith, length, get_or}
use Rattle.capture.specs.Records.{captured_octets}
use Rattle.report.specs.Counting.{those, rising}
use Rattle.report.specs.declared.Tally.{Tally}
use Rattle.report.specs.Inner.{nothing}

-- a size of records that is the sum of what each weighs
pub record Adds (weight : List ℕ → ℕ) (size : List (List ℕ) → ℕ) : Type 0 where
  pub none : size [] ≡ 0
  pub one : (r : List ℕ) (rs : List (List ℕ)) → size (r ∷ rs) ≡ weight r + size rs

-- so are the number of the records, and that of their octets
pub packets-add : Adds (λ (r : List ℕ). 1) length
packets-add = record { none = refl; one = λ r rs. omega arith }

pub octets-add : Adds length captured_octets
unfolding captured_octets
octets-add = record { none = refl; one = λ r rs. refl }

module _ {weight : List ℕ → ℕ} {size : List (List ℕ) → ℕ} (adds : Adds weight size) (test : List ℕ → Bool) where
  pub those-none : size (those test []) ≡ 0
  unfolding those
  those-none = adds.none

  -- a record more, where the test passes it
  pub those-one : (r : List ℕ) (rs : List (List ℕ)) → size (those test (r ∷ rs)) ≡ cond (test r) (weight r) 0 + size (those test rs)
  unfolding those
  those-one r rs = by (test r)
    where
      by : (t : Bool) → size (cond t (r ∷ those test rs) (those test rs)) ≡ cond t (weight r) 0 + size (those test rs)
      by true = adds.one r (those test rs)
      by false = omega arith

  -- no more than there are
  pub those-less : (rs : List (List ℕ)) → size (those test rs) ≤ size rs
  those-less [] = omega (arith, those-none, adds.none)
  those-less (r ∷ rs) = omega (arith, those-one r rs, part (test r), adds.one r rs, those-less rs)
    where
      part : (t : Bool) → cond t (weight r) 0 ≤ weight r
      part true = omega arith
      part false = omega arith

-- a list is what rises over its elements
pub rising-of : {A : Type 0} (n : ℕ) (f : ℕ → A) (xs : List A) (d : A) → length xs ≡ n → ((k : ℕ) → k < n → get_or xs k d ≡ f k) → xs ≡ rising n f
unfolding rising
rising-of zero f [] d e h = refl
rising-of zero f (x ∷ xs) d e h = absurd (omega arith)
rising-of (suc n) f [] d e h = absurd (omega arith)
rising-of (suc n) f (x ∷ xs) d e h = ap₂ ◌∷◌ (h 0 (omega arith)) (rising-of n (λ k. f (suc k)) xs d (omega arith) (λ k l. h (suc k) (omega arith)))

-- a new tally
pub blank : (t : Tally) → (t.packets ≡ 0) × (t.octets ≡ 0) → t ≡ nothing
blank t e =
    let same : t ≡ record { packets = t.packets; octets = t.octets } = refl in
    same ∙ rw (e.0, e.1) refl

-- of the tallies in operation one replaced, and one looked at
pub kept_set : (n q : ℕ) (tallies : List Tally) (t : Tally) → q < length (take n tallies)
    → take n (slice_set tallies q t) ≡ slice_set (take n tallies) q t
kept_set n q tallies t inside = take-set-lt n tallies q t (omega (arith, inside, length-take n tallies))

pub kept_index : (n q : ℕ) (tallies : List Tally) → q < length (take n tallies)
    → slice_index_or (take n tallies) q nothing ≡ slice_index_or tallies q nothing
kept_index n q tallies inside = get_or-take n tallies q nothing (omega (arith, inside, length-take n tallies))
