-- What readers ask of captures, over the definitions alone.
use Rattle.octets.specs.Prelude.{◌≡◌, List, ℕ, ◌+◌, ◌*◌, ◌≤◌, arith, length, length-drop, drop, length-take-le}
use Rattle.capture.specs.Records.{record_header, captured_length, first_record, Fall, fall_of, captured_octets}
use Rattle.capture.specs.declared.Order.{Order}
use Rattle.capture.proofs.Falls.{begins-fits, fall-ways}

-- records with their headers, and what is left, have as many octets as there are
abbrev Fills : Fall → ℕ → Type 0
Fills f n = record_header * length f.records + captured_octets f.records + length f.left ≡ n

pub records-fill : (o : Order) (xs : List ℕ) → Fills (fall_of o xs) (length xs)
unfolding captured_octets
records-fill o xs =
    fall-ways o (λ (ys : List ℕ) (f : Fall). Fills f (length ys)) (λ ys. omega arith) (λ ys f e others.
    let size : ℕ = captured_length o ys in
    let fits : record_header + size ≤ length ys = (begins-fits o ys e).1 in
    let after = length-drop record_header ys in
    let first : length (first_record o ys) ≡ size = length-take-le size (drop record_header ys) (omega arith) in
    omega (arith, length-drop (record_header + size) ys)) (length xs) xs
