-- The messages into which a stream falls.
use Rattle.octets.specs.Prelude.{◌≡◌, refl, sym, ap, cond, ◌∙◌, List, [], ◌∷◌, ◌++◌, append_assoc, append-nil, Bool, true, false, ℕ, zero}
use Rattle.octets.specs.Prelude.{suc, ◌+◌, ◌≤◌, arith, length, length-append, length-drop, take-append-drop, length-take-le, take_all}
use Rattle.octets.specs.Prelude.{drop_at, le-leb, lt-leb, leb-true}
use Rattle.messages.specs.Wire.{header_size, size_in}
use Rattle.messages.specs.Requests.{ack_in, carried_message}
use Rattle.messages.specs.Settings.{Settings}
use Rattle.ring.specs.Reading.{message_length}
use Rattle.ring.specs.Streams.{begins_whole, first_message, behind_first}
use Rattle.ring.proofs.Holdings.{size-append, size-front, first-append}
use Rattle.backend.specs.Streams.{messages_within, rest_within, messages_in, rest_of, joined, Messages, none, more, settings_after, acks_to}

-- a stream falls by steps: nothing within no steps, or where it does not begin with a whole message, else its first message
fall-ways : (P : ℕ → List ℕ → List (List ℕ) → List ℕ → Type 0)
    → ((xs : List ℕ) → P 0 xs [] xs)
    → ((n : ℕ) (xs : List ℕ) → begins_whole xs ≡ false → P n xs [] xs)
    → ((n : ℕ) (xs : List ℕ) (ms : List (List ℕ)) (rest : List ℕ) → begins_whole xs ≡ true → P n (behind_first xs) ms rest
    → P (suc n) xs (first_message xs ∷ ms) rest)
    → (n : ℕ) (xs : List ℕ) → P n xs (messages_within n xs) (rest_within n xs)
unfolding messages_within rest_within
fall-ways P nothing part step zero xs = nothing xs
fall-ways P nothing part step (suc n) xs = by (begins_whole xs) refl (fall-ways P nothing part step n (behind_first xs))
  where
    by : (b : Bool) → begins_whole xs ≡ b → P n (behind_first xs) (messages_within n (behind_first xs)) (rest_within n (behind_first xs))
        → P (suc n) xs (cond b (first_message xs ∷ messages_within n (behind_first xs)) []) (cond b (rest_within n (behind_first xs)) xs)
    by true e others = step n xs _ _ e others
    by false e others = part (suc n) xs e

-- the first message is one
pub first-long : (xs : List ℕ) → begins_whole xs ≡ true → length (first_message xs) ≡ message_length (first_message xs)
first-long xs e =
    let size : size_in (first_message xs) ≡ size_in xs = size-front (message_length xs) xs (omega arith) in
    length-take-le (message_length xs) xs (leb-true (message_length xs) (length xs) e) ∙ ap (λ (n : ℕ). header_size + n) (sym size)

-- a stream that begins with a message m begins with it as its first message
first-is : (m ys : List ℕ) → length m ≡ message_length m
    → (begins_whole (m ++ ys) ≡ true) × (first_message (m ++ ys) ≡ m) × (behind_first (m ++ ys) ≡ ys)
first-is m ys long =
    let first = first-append m ys (le-leb (message_length m) (length m) (omega arith)) in
    let size : size_in (m ++ ys) ≡ size_in m = size-append m ys (omega arith) in
    (first.0, first.1 ∙ take_all (message_length m) m (omega arith), drop_at m ys (message_length (m ++ ys)) (omega arith))

-- no octets do not begin with a message
pub empty-part : (xs : List ℕ) → length xs ≤ 0 → begins_whole xs ≡ false
empty-part xs h = lt-leb (message_length xs) (length xs) (omega arith)

-- a stream is its messages and what is behind them, and that does not begin with a whole message
pub stream-parts : (xs : List ℕ) → joined (messages_in xs) ++ rest_of xs ≡ xs
unfolding joined
stream-parts xs =
    fall-ways (λ (_ : ℕ) (ys : List ℕ) (ms : List (List ℕ)) (rest : List ℕ). joined ms ++ rest ≡ ys) (λ ys. refl) (λ n ys e. refl)
    (λ n ys ms rest e others. append_assoc (first_message ys) (joined ms) rest ∙ ap (λ (l : List ℕ). first_message ys ++ l) others
    ∙ take-append-drop (message_length ys) ys) (length xs) xs

pub messages-whole : (xs : List ℕ) → Messages (messages_in xs)
messages-whole xs =
    fall-ways (λ (_ : ℕ) (_ : List ℕ) (ms : List (List ℕ)) (_ : List ℕ). Messages ms) (λ ys. none) (λ n ys e. none)
    (λ n ys ms rest e others. more (first_message ys) ms (first-long ys e) others) (length xs) xs

pub rest_part : (xs : List ℕ) → begins_whole (rest_of xs) ≡ false
rest_part xs =
    fall-ways (λ (n : ℕ) (ys : List ℕ) (_ : List (List ℕ)) (rest : List ℕ). length ys ≤ n → begins_whole rest ≡ false) empty-part
    (λ n ys e h. e) (λ n ys ms rest e others h. others (omega (arith, length-drop (message_length ys) ys))) (length xs) xs (omega arith)

none_within : (n : ℕ) (xs : List ℕ) → begins_whole xs ≡ false → (messages_within n xs ≡ []) × (rest_within n xs ≡ xs)
unfolding messages_within rest_within
none_within zero xs e = (refl, refl)
none_within (suc n) xs e = rw e (refl, refl)

pub falls-none : (xs : List ℕ) → begins_whole xs ≡ false → (messages_in xs ≡ []) × (rest_of xs ≡ xs)
falls-none xs e = none_within (length xs) xs e

-- and there is no other way to take it apart so
falls-within : (n : ℕ) (ms : List (List ℕ)) (rest : List ℕ) → Messages ms → begins_whole rest ≡ false
    → length (joined ms ++ rest) ≤ n
    → (messages_within n (joined ms ++ rest) ≡ ms) × (rest_within n (joined ms ++ rest) ≡ rest)
unfolding joined messages_within rest_within
falls-within n ms rest none part h = none_within n rest part
falls-within zero ms rest (more m others long whole) part h =
    absurd (omega (arith, length-append (m ++ joined others) rest, length-append m (joined others)))
falls-within (suc n) ms rest (more m others long whole) part h =
    let ys = joined others ++ rest in
    let first = first-is m ys long in
    let apart = append_assoc m (joined others) rest in
    let further = falls-within n others rest whole part (omega (arith, ap length apart, length-append m ys)) in
    rw (apart, first.0, first.1, first.2, further.0, further.1) (refl, refl)

pub falls-so : (ms : List (List ℕ)) (rest : List ℕ) → Messages ms → begins_whole rest ≡ false
    → (messages_in (joined ms ++ rest) ≡ ms) × (rest_of (joined ms ++ rest) ≡ rest)
falls-so ms rest whole part = falls-within (length (joined ms ++ rest)) ms rest whole part (omega arith)

-- the step by which a stream falls: its first message, then what is behind that; or nothing
pub falls-first : (xs : List ℕ) → begins_whole xs ≡ true
    → (messages_in xs ≡ first_message xs ∷ messages_in (behind_first xs)) × (rest_of xs ≡ rest_of (behind_first xs))
unfolding joined
falls-first xs e =
    let first = first_message xs in
    let others = messages_in (behind_first xs) in
    let rest = rest_of (behind_first xs) in
    let so = falls-so (first ∷ others) rest (more first others (first-long xs e) (messages-whole (behind_first xs))) (rest_part (behind_first xs)) in
    let same : joined (first ∷ others) ++ rest ≡ xs =
    append_assoc first (joined others) rest ∙ ap (λ (l : List ℕ). first ++ l) (stream-parts (behind_first xs))
    ∙ take-append-drop (message_length xs) xs in
    rw same at so

-- one message more
pub joined_snoc : (ms : List (List ℕ)) (m : List ℕ) → joined (ms ++ (m ∷ [])) ≡ joined ms ++ m
unfolding joined
joined_snoc [] m = append-nil m
joined_snoc (x ∷ xs) m = ap (λ (l : List ℕ). x ++ l) (joined_snoc xs m) ∙ sym (append_assoc x (joined xs) m)

pub messages-snoc : (ms : List (List ℕ)) (m : List ℕ) → Messages ms → length m ≡ message_length m → Messages (ms ++ (m ∷ []))
messages-snoc ms m none long = more m [] long none
messages-snoc ms m (more x xs first whole) long = more x (xs ++ (m ∷ [])) first (messages-snoc xs m whole long)

pub settings-snoc : (s : Settings) (ms : List (List ℕ)) (m : List ℕ)
    → settings_after s (ms ++ (m ∷ [])) ≡ (carried_message (settings_after s ms) m []).settings
unfolding settings_after
settings-snoc s [] m = refl
settings-snoc s (x ∷ xs) m = settings-snoc (carried_message s x []).settings xs m

pub acks-snoc : (s : Settings) (ms : List (List ℕ)) (m : List ℕ)
    → acks_to s (ms ++ (m ∷ [])) ≡ acks_to s ms ++ ack_in (carried_message (settings_after s ms) m [])
unfolding settings_after acks_to
acks-snoc s [] m = append-nil (ack_in (carried_message s m []))
acks-snoc s (x ∷ xs) m =
    let t = (carried_message s x []).settings in
    let ack = ack_in (carried_message s x []) in
    ap (λ (l : List ℕ). ack ++ l) (acks-snoc t xs m)
    ∙ sym (append_assoc ack (acks_to t xs) (ack_in (carried_message (settings_after t xs) m [])))
