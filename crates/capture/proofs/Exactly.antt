-- The records of a capture are exactly those that its octets hold, one after the other behind the capture's header.
use Rattle.octets.specs.Prelude.{◌≡◌, refl, sym, ap, subst, ◌∙◌, List, [], ◌∷◌, ◌++◌, true, ◌↔◌, ℕ, ◌-◌, arith, length, take, drop, length-append}
use Rattle.octets.specs.Prelude.{length-drop, take-append-drop, length-take-le, drop-drop, take_at, drop_at, eqb, eqb-true}
use Rattle.octets.specs.Outcome.{value}
use Rattle.octets.proofs.Outcomes.{test-value}
use Rattle.capture.specs.Header.{capture_header, order_of}
use Rattle.capture.specs.Records.{record_wrong, record_header, captured_length, begins_record, first_record, behind_record}
use Rattle.capture.specs.Records.{Fall, fall_within, fall_of, all_of, records_outcome, Holds, holds_none, holds_more}
use Rattle.capture.specs.declared.Order.{Order}
use Rattle.capture.proofs.Orders.{number-in-take, number-in-append}
use Rattle.capture.proofs.Steps.{begins}
use Rattle.capture.proofs.Falls.{begins-fits, fall-ways, fall-next}

no-octets-left : (xs : List ℕ) → length xs ≡ 0 → xs ≡ []
no-octets-left [] e = refl
no-octets-left (x ∷ xs) e = absurd (omega (arith, e))

module _ (o : Order) where
  -- a good record at the start, and what is held behind it
  held_first : (xs : List ℕ) (rs : List (List ℕ)) → begins_record o xs ≡ true → Holds o rs (behind_record o xs) → Holds o (first_record o xs ∷ rs) xs
  held_first xs rs e h =
      let n : ℕ = captured_length o xs in
      let header = take record_header xs in
      let rest = drop record_header xs in
      let fits = begins-fits o xs e in
      let left : length rest ≡ length xs - record_header = length-drop record_header xs in
      let first : length (first_record o xs) ≡ n = length-take-le n rest (omega (arith, fits.1)) in
      let joined : header ++ (first_record o xs ++ behind_record o xs) ≡ xs =
      rw (← drop-drop n record_header xs, take-append-drop n rest) (take-append-drop record_header xs) in
      let whole : length header ≡ record_header = length-take-le record_header xs (omega (arith, fits.1)) in
      let told : captured_length o header ≡ length (first_record o xs) = number-in-take o 4 record_header xs 8 (omega arith) ∙ sym first in
      subst (Holds o (first_record o xs ∷ rs)) joined
      (holds_more o header (first_record o xs) rs (behind_record o xs) whole told (omega (arith, fits.0)) h)

  -- where nothing is left, the octets hold the records
  abbrev Held : Fall → List ℕ → Type 0
  Held f xs = length f.left ≡ 0 → Holds o f.records xs

  held-within : (n : ℕ) (xs : List ℕ) → Held (fall_within n o xs) xs
  held-within =
      fall-ways o (λ (xs : List ℕ) (f : Fall). Held f xs) (λ xs e. rw (no-octets-left xs e) (holds_none o))
      (λ xs f e others none. held_first xs f.records e (others none))

  -- and records that octets hold are those that are found
  held_found : (rs : List (List ℕ)) (xs : List ℕ) → Holds o rs xs → fall_of o xs ≡ record { records = rs; left = [] }
  unfolding fall_within
  held_found rs xs (holds_none o) = refl
  held_found rs xs (holds_more o header r others behind whole told short held) =
      let n : ℕ = captured_length o xs in
      let captured : n ≡ length r = number-in-append o 4 header (r ++ behind) 8 (omega (arith, whole)) ∙ told in
      let rest : drop record_header xs ≡ r ++ behind = drop_at header (r ++ behind) record_header whole in
      let long = length-append header (r ++ behind) in
      let longer = length-append r behind in
      let good = begins o xs n refl (omega (arith, captured, short)) (omega (arith, long, longer, captured, whole)) in
      let first : first_record o xs ≡ r = ap (take n) rest ∙ take_at r behind n (sym captured) in
      let after : behind_record o xs ≡ behind = sym (drop-drop n record_header xs) ∙ ap (drop n) rest ∙ drop_at r behind n (sym captured) in
      fall-next o xs good ∙ rw (first, after, held_found others behind held) refl

-- the records of a capture with a good header
pub records-exactly : (capture : List ℕ) (rs : List (List ℕ))
    → (records_outcome capture ≡ value rs) ↔ Holds (order_of capture) rs (drop capture_header capture)
records-exactly capture rs = (to, from)
  where
    to : records_outcome capture ≡ value rs → Holds (order_of capture) rs (drop capture_header capture)
    to e =
        let behind = drop capture_header capture in
        let f = fall_of (order_of capture) behind in
        let x = test-value (eqb (length f.left) 0) f.records rs record_wrong e in
        rw x.1 at (held-within (order_of capture) (length behind) behind (eqb-true (length f.left) 0 x.0))

    from : Holds (order_of capture) rs (drop capture_header capture) → records_outcome capture ≡ value rs
    from h = ap all_of (held_found (order_of capture) rs (drop capture_header capture) h)
