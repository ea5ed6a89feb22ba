-- What a call of the writer leaves, by its answer; and when it refuses.
use Rattle.octets.specs.Prelude.{◌≡◌, refl, sym, ap, ◌∙◌, ◌↔◌, List, Bool, true, false, cond, false≢true, ℕ, ◌≤◌, ◌<◌, length}
use Rattle.octets.specs.Prelude.{take, drop, take-append_seam, dec_lt, arith}
use lib.Seq.{drop-append_seam}
use Rattle.octets.specs.Outcome.{Outcome, value, refused}
use Rattle.octets.proofs.Outcomes.{value_same, refused-same, value-not-refused}
use Rattle.guest_messages.specs.Refusals.{buffer_too_short}
use Rattle.guest_messages.specs.Writer.{After, written}
use Rattle.guest_messages.proofs.Buffers.{written-whole, written-short}

-- a message, by the room for it
module _ (m b : List ℕ) where
  answer-whole : length m ≤ length b → (written (value m) b).answer ≡ value (length m)
  answer-whole h = sym (ap (λ (x : After). x.answer) (written-whole m b h))

  pub answer-short : length b < length m → (written (value m) b).answer ≡ refused buffer_too_short
  answer-short h = sym (ap (λ (x : After). x.answer) (written-short m b h))

  by-room : {P : Type 0} → (length m ≤ length b → P) → (length b < length m → P) → P
  by-room fits short = elim (dec_lt (length b) (length m)) [ yes h ↦ short h | no n ↦ fits (omega arith) ]

  pub message-refused : (k : ℕ) → (written (value m) b).answer ≡ refused k → (k ≡ buffer_too_short) × (length b < length m)
  message-refused k e =
      by-room (λ h. absurd (value-not-refused (length m) k (sym (answer-whole h) ∙ e)))
      (λ h. (sym (refused-same buffer_too_short k (sym (answer-short h) ∙ e)), h))

  -- a message that is written stands at the start, and the octets behind it stay
  pub message-left : (n : ℕ) → (written (value m) b).answer ≡ value n
      → (n ≡ length m) × (take n (written (value m) b).buffer ≡ m) × (drop n (written (value m) b).buffer ≡ drop n b)
  message-left n e =
      by-room
      (λ h. let w = written-whole m b h in
      let same : n ≡ length m = value_same n (length m) (sym e ∙ answer-whole h) in
      (same, rw (← w, same) (take-append_seam m _), rw (← w, same) (drop-append_seam m _)))
      (λ h. absurd (value-not-refused n buffer_too_short (sym e ∙ answer-short h)))

pub refused-keeps : (o : Outcome (List ℕ)) (b : List ℕ) (k : ℕ) → (written o b).answer ≡ refused k → (written o b).buffer ≡ b
unfolding written
refused-keeps (value m) b k e = sym (ap (λ (x : After). x.buffer) (written-short m b (message-refused m b k e).1))
refused-keeps (refused j) b k e = refl

-- a call with one test of its own refuses by its own number exactly where the test fails
pub refuses-first : (m b : List ℕ) (k : ℕ) → (k ≡ buffer_too_short → ⊥) → (t : Bool)
    → ((written (cond t (value m) (refused k)) b).answer ≡ refused k) ↔ (t ≡ false)
unfolding written
refuses-first m b k other true = (λ e. absurd (other (message-refused m b k e).0), λ e. absurd (false≢true (sym e)))
refuses-first m b k other false = (λ e. refl, λ e. refl)
