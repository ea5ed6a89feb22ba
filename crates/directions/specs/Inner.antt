-- What the search for a difference promises. None here is needed to read the promise of the call.
use Rattle.std.specs.Prelude.{◌≡◌, ◌+◌, ◌<◌}
use Rattle.octets.specs.Prelude.{List, ℕ}
use Rattle.toeplitz.specs.Hash.{window_at}
use Rattle.std.specs.Prelude.{Option, None, Some}

-- the windows at i + k and at m + k are equal at each k below n
abbrev pub SameBelow : List ℕ → ℕ → ℕ → ℕ → Type 0
SameBelow key i m n = (k : ℕ) → k < n → window_at key (i + k) ≡ window_at key (m + k)

-- j: the first k below n at which they differ; none: they are equal at each
abbrev pub FoundIn : List ℕ → ℕ → ℕ → ℕ → Option ℕ → Type 0
FoundIn key i m n (Some j) = (j < n) × (window_at key (i + j) ≡ window_at key (m + j) → ⊥) × SameBelow key i m j
FoundIn key i m n None = SameBelow key i m n
