-- What the header of a capture is found to be, test by test.
use Rattle.octets.specs.Prelude.{◌≡◌, refl, List, true, false, ℕ, ◌≤◌, ◌<◌, length, le-leb, lt-leb}
use Rattle.octets.specs.Outcome.{refused}
use Rattle.capture.specs.Header.{header_wrong, capture_header, number_in, order_of, is_classic, link_outcome, header_outcome}
use Rattle.capture.specs.declared.Order.{Order}

module _ (xs : List ℕ) where
  pub header-short : length xs < capture_header → refused header_wrong ≡ header_outcome xs
  unfolding header_outcome
  header-short h = rw (lt-leb capture_header (length xs) h) refl

  module _ (o : Order) (e : o ≡ order_of xs) (long : capture_header ≤ length xs) where
    pub header-other : is_classic o xs ≡ false → refused header_wrong ≡ header_outcome xs
    unfolding header_outcome
    header-other h = rw (le-leb capture_header (length xs) long, ← e, h) refl

    pub header-link : is_classic o xs ≡ true → (n : ℕ) → n ≡ number_in o 4 xs 20 → link_outcome n ≡ header_outcome xs
    unfolding header_outcome
    header-link h n is = rw (le-leb capture_header (length xs) long, ← e, h, is) refl
