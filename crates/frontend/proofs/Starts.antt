-- What a start does, by what it finds and by what the writer answers.
use Rattle.octets.specs.Prelude.{◌≡◌, refl, sym, ap, ◌∙◌, List, ◌++◌, ℕ, ◌-◌, ◌≤◌, ◌<◌, arith, length, drop, eqb, leb, leb-false}
use Rattle.octets.specs.Outcome.{Outcome, value, refused}
use Rattle.octets.proofs.Outcomes.{value_same, refused-same, value-not-refused, test-value}
use Rattle.octets.proofs.Truth.{by-test}
use Rattle.page.specs.Page.{page_size, area_size}
use Rattle.guest_messages.specs.Refusals.{buffer_too_short, value_not_listed, write_refusal_number}
use Rattle.toeplitz.specs.Refusals.{key_length_wrong}
use Rattle.guest_messages.specs.Writer.{After, written, written_outcome_of, after}
use Rattle.std.specs.Prelude.{Result, Ok, Err}
use Rattle.guest_messages.specs.declared.WriteRefusal.{WriteRefusal}
use Rattle.guest_messages.specs.declared.WriteRefusal.TheVariants.{KeyLength, Value, Buffer}
use Rattle.guest_steps.specs.Refusals.{request_outstanding}
use Rattle.guest_steps.specs.Guest.{GuestState, max_request, idle, outstanding, guest_of}
use Rattle.guest_steps.specs.Calls.{Found, unread_requests, found, wrote_on, message_of, started_by, readied, start_by, start_of, refused_with}
use Rattle.frontend.specs.Rules.{Asked, gets_flags, sets_flags, sets_key, sets_mapping}
use Rattle.guest_steps.specs.declared.Ask.{Ask}
use Rattle.guest_steps.specs.declared.Ask.TheVariants.{GetFlags, SetFlags, SetKey, SetMapping}
use Rattle.frontend.proofs.Goodness.{asked-fits, asked-refused}
use Rattle.frontend.proofs.Ways.{found-ways}

-- room for a start is room in the area of a whole page
pub room-found : (g : GuestState) (page : List ℕ) (room : ℕ) → value room ≡ readied (found g page) g
    → (length page ≡ page_size) × (room ≤ area_size)
unfolding readied
room-found g page room =
    found-ways g page (λ (o : Outcome Found). value room ≡ readied o g → (length page ≡ page_size) × (room ≤ area_size))
    (λ k s e. absurd (value-not-refused room k e)) (λ ok f e. absurd (value-not-refused room _ e))
    (λ ok w e. let same = (test-value (eqb g.phase idle) (area_size - unread_requests g page) room request_outstanding (sym e)).1 in
    (ok.size, omega (arith, same)))

-- what a writer that answers a length n has done
pub record Wrote (o : Outcome (List ℕ)) (request : List ℕ) (n : ℕ) (buffer : List ℕ) : Type 0 where
  pub message : List ℕ
  pub is : o ≡ value message
  pub size : n ≡ length message
  pub octets : buffer ≡ message ++ drop (length message) request

-- the ways that a writer can go: it has a message, which has its place or has none, or it refuses
written-ways : (o : Outcome (List ℕ)) (request : List ℕ) (P : Outcome ℕ → List ℕ → Type 0)
    → ((m : List ℕ) → o ≡ value m → P (value (length m)) (m ++ drop (length m) request))
    → ((m : List ℕ) → o ≡ value m → length request < length m → P (refused buffer_too_short) request)
    → ((k : ℕ) → o ≡ refused k → P (refused k) request)
    → P (written o request).answer (written o request).buffer
unfolding written
written-ways (value m) request P placed short refusing =
    by-test (λ (a : After). P a.answer a.buffer) (leb (length m) (length request)) _ _ (λ t. placed m refl)
    (λ t. short m refl (leb-false _ _ t))
written-ways (refused k) request P placed short refusing = refusing k refl

module _ (o : Outcome (List ℕ)) (request buffer : List ℕ) (w : Result ℕ WriteRefusal) (e : after w buffer ≡ written o request) where
  answer-same : written_outcome_of w ≡ (written o request).answer
  answer-same = ap (λ (a : After). a.answer) e

  buffer-same : buffer ≡ (written o request).buffer
  buffer-same = ap (λ (a : After). a.buffer) e

  pub wrote : (n : ℕ) → w ≡ Ok n → Wrote o request n buffer
  wrote n l =
      written-ways o request (λ (a : Outcome ℕ) (b : List ℕ). value n ≡ a → buffer ≡ b → Wrote o request n buffer)
      (λ m is x y. record { message = m; is = is; size = value_same _ _ x; octets = y })
      (λ m is _ x _. absurd (value-not-refused n _ x)) (λ k is x _. absurd (value-not-refused n k x))
      (ap written_outcome_of (sym l) ∙ answer-same) buffer-same

  -- what a writer that refuses by another number than that of its place has done
  pub refuses : (k : ℕ) → (k ≡ buffer_too_short → ⊥) → written_outcome_of w ≡ refused k → (o ≡ refused k) × (buffer ≡ request)
  refuses k other r =
      written-ways o request (λ (a : Outcome ℕ) (b : List ℕ). refused k ≡ a → buffer ≡ b → (o ≡ refused k) × (buffer ≡ request))
      (λ m is x _. absurd (value-not-refused _ k (sym x))) (λ m is _ x _. absurd (other (refused-same k _ x)))
      (λ j is x y. (is ∙ ap refused (sym (refused-same k j x)), y)) (sym r ∙ answer-same) buffer-same

  -- and it refuses none of the four requests for its place
  pub has-place : Asked o → length request ≡ max_request → w ≡ Err Buffer → ⊥
  has-place asked long is-buffer =
      written-ways o request (λ (a : Outcome ℕ) (_ : List ℕ). refused buffer_too_short ≡ a → ⊥) (λ m is x. value-not-refused _ _ (sym x))
      (λ m is short x. omega (arith, asked-fits o asked m is)) (λ k is x. (asked-refused o asked k is).2 (sym (refused-same _ k x)))
      (ap written_outcome_of (sym is-buffer) ∙ answer-same)

-- what is asked for is one of the four requests
pub asks : (ask : Ask) → Asked (message_of ask)
asks GetFlags = gets_flags
asks (SetFlags flags) = sets_flags flags
asks (SetKey key) = sets_key key.now
asks (SetMapping entries) = sets_mapping entries.now

-- what the writer's answer says of a request that is asked for, in a place with room for each of them
module _ (ask : Ask) (request buffer : List ℕ) where
  pub written-fits : (n : ℕ) → after (Ok n) buffer ≡ written (message_of ask) request → n ≤ max_request
  written-fits n e =
      let w = wrote (message_of ask) request buffer (Ok n) e n refl in
      rw w.size (asked-fits (message_of ask) (asks ask) w.message w.is)

  pub refused-by : (r : WriteRefusal) → length request ≡ max_request → after (Err r) buffer ≡ written (message_of ask) request
      → (message_of ask ≡ refused (write_refusal_number r)) × (buffer ≡ request)
  refused-by KeyLength long e = refuses (message_of ask) request buffer (Err KeyLength) e key_length_wrong (λ x. omega (arith, x)) refl
  refused-by Value long e = refuses (message_of ask) request buffer (Err Value) e value_not_listed (λ x. omega (arith, x)) refl
  refused-by Buffer long e = absurd (has-place (message_of ask) request buffer (Err Buffer) e (asks ask) long refl)

-- a start that has room: the writer refuses the request, or it begins
module _ (o : Outcome (List ℕ)) (g : GuestState) (page : List ℕ) (room : ℕ) (there : value room ≡ readied (found g page) g) where
  pub starts-refused : (k : ℕ) → o ≡ refused k → refused_with k g page ≡ start_of o g page
  unfolding start_by started_by
  starts-refused k e = rw (← there, e) refl

  pub starts_with : (n : ℕ) (buffer : List ℕ) → Wrote o g.request n buffer
      → wrote_on (guest_of outstanding buffer n 0 g.req_prod g.header g.payload g.taken g.rsp_cons) page room
      ≡ start_of o g page
  unfolding start_by started_by
  starts_with n buffer w = rw (w.octets, w.size, ← there, w.is) refl
