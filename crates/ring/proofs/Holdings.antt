-- A message read octet by octet holds the octets that were read.
use Rattle.octets.specs.Prelude.{◌≡◌, refl, sym, ap, ap₂, ◌∙◌, List, [], ◌∷◌, ◌++◌, append-nil, Bool, true, false, ℕ, suc, ◌+◌, ◌-◌, ◌≤◌, ◌<◌, arith}
use Rattle.octets.specs.Prelude.{length, take, drop, set, length-append, length-take, length-drop, length-set, drop_of_length-le, List·get_d-append}
use Rattle.octets.specs.Prelude.{take_all, take-append-le, take-append-add, drop-append-le, get_or-take, length-take-le, leb, ltb, le-leb, lt-leb}
use Rattle.octets.specs.Prelude.{leb-true, leb-false, ltb-true, ltb-false}
use Rattle.std.proofs.Common.{take-suc-set}
use lib.Seq.{take-length, append_snoc, set_out}
use Rattle.octets.proofs.Numbers.{number_same}
use Rattle.messages.specs.Wire.{header_size, max_payload, size_in}
use Rattle.ring.specs.Reading.{message_length, whole, with_octet, received, Message}
use Rattle.ring.specs.Streams.{begins_whole, first_message, present_part, Holding}
use Rattle.ring.proofs.Turns.{with-header, with-payload, received_none, received-next, received-whole}

-- the size in a header does not depend on what stands behind the header
pub size-append : (xs ys : List ℕ) → header_size ≤ length xs → size_in (xs ++ ys) ≡ size_in xs
size-append xs ys h = number_same 4 (xs ++ ys) xs 4 4 (λ k l. List·get_d-append xs ys 0 (4 + k) (omega arith))

pub size-front : (n : ℕ) (xs : List ℕ) → header_size ≤ n → size_in (take n xs) ≡ size_in xs
size-front n xs h = number_same 4 (take n xs) xs 4 4 (λ k l. get_or-take n xs (4 + k) 0 (omega arith))

pub size-take : (xs : List ℕ) → size_in (take header_size xs) ≡ size_in xs
size-take xs = size-front header_size xs (omega arith)

length-snoc : (xs : List ℕ) (x : ℕ) → length (xs ++ (x ∷ [])) ≡ suc (length xs)
length-snoc xs x = length-append xs (x ∷ []) ∙ omega arith

-- what is read of a stream, by whether it begins with a whole message
pub part-whole : (xs : List ℕ) → begins_whole xs ≡ true → present_part xs ≡ first_message xs
unfolding present_part
part-whole xs e = rw e refl

pub part-all : (xs : List ℕ) → begins_whole xs ≡ false → present_part xs ≡ xs
unfolding present_part
part-all xs e = rw e refl

-- before the first octet
pub holding-none : (m : Message) → length m.header ≡ header_size → length m.payload ≡ max_payload → m.taken ≡ 0 → Holding m []
holding-none m header payload none =
    record { count = none; header-size = header; payload-size = payload; header = refl; payload = refl }

-- once as many octets were read as a header has, the header is what they begin with
pub holding-header : (m : Message) (xs : List ℕ) → Holding m xs → header_size ≤ length xs → m.header ≡ take header_size xs
holding-header m xs held long = sym (take_all (length xs) m.header (omega arith)) ∙ held.header

-- one octet more
pub holding-next : (m : Message) (xs : List ℕ) (x : ℕ) → Holding m xs → Holding (with_octet m x) (xs ++ (x ∷ []))
holding-next m xs x held = by (ltb (length xs) header_size) refl
  where
    zs : List ℕ
    zs = xs ++ (x ∷ [])

    one : length zs ≡ suc (length xs)
    one = length-snoc xs x

    counted : suc m.taken ≡ length zs
    counted = omega (arith, one)

    in-header : length xs < header_size → take (length zs) (set m.header m.taken x) ≡ take header_size zs
    in-header h =
        ap₂ (λ (n i : ℕ). take n (set m.header i x)) one held.count
        ∙ take-suc-set m.header (length xs) x (omega arith)
        ∙ ap (λ (l : List ℕ). l ++ (x ∷ [])) (held.header ∙ take_all header_size xs (omega arith))
        ∙ sym (take_all header_size zs (omega (arith, one)))

    no_payload : length xs < header_size → take (length zs - header_size) m.payload ≡ take max_payload (drop header_size zs)
    no_payload h =
        let none : length zs - header_size ≡ 0 = omega (arith, one) in
        rw (none, drop_of_length-le zs {i = header_size} (omega (arith, one))) refl

    behind-header : header_size ≤ length xs → take (length zs) m.header ≡ take header_size zs
    behind-header h =
        take_all (length zs) m.header (omega (arith, one))
        ∙ holding-header m xs held h
        ∙ sym (take-append-le header_size xs (x ∷ []) h)

    in-payload : header_size ≤ length xs → (b : Bool) → ltb (length xs - header_size) max_payload ≡ b
        → take (length zs - header_size) (set m.payload (m.taken - header_size) x) ≡ take max_payload (drop header_size zs)
    in-payload h true e =
        let k = length xs - header_size in
        let room : k < max_payload = ltb-true k max_payload e in
        let next : length zs - header_size ≡ suc k = omega (arith, one) in
        let size : length (drop header_size xs) ≡ k = length-drop header_size xs in
        ap₂ (λ (n i : ℕ). take n (set m.payload (i - header_size) x)) next held.count
        ∙ take-suc-set m.payload k x (omega arith)
        ∙ ap (λ (l : List ℕ). l ++ (x ∷ [])) (held.payload ∙ take_all max_payload (drop header_size xs) (omega arith))
        ∙ sym (take_all max_payload (drop header_size xs ++ (x ∷ [])) (omega (arith, length-snoc (drop header_size xs) x)))
        ∙ ap (take max_payload) (sym (drop-append-le header_size xs (x ∷ []) h))
    in-payload h false e =
        let k = length xs - header_size in
        let full : max_payload ≤ k = ltb-false k max_payload e in
        let size : length (drop header_size xs) ≡ k = length-drop header_size xs in
        ap (take (length zs - header_size)) (set_out m.payload (m.taken - header_size) x (omega arith))
        ∙ take_all (length zs - header_size) m.payload (omega (arith, one))
        ∙ sym (take_all k m.payload (omega arith))
        ∙ held.payload
        ∙ sym (take-append-le max_payload (drop header_size xs) (x ∷ []) (omega arith))
        ∙ ap (take max_payload) (sym (drop-append-le header_size xs (x ∷ []) h))

    by : (b : Bool) → ltb (length xs) header_size ≡ b → Holding (with_octet m x) zs
    by true e =
        let h : length xs < header_size = ltb-true (length xs) header_size e in
        rw (with-header m x (omega arith))
        (record {
          count = counted;
          header-size = length-set m.header m.taken x ∙ held.header-size;
          payload-size = held.payload-size;
          header = in-header h;
          payload = no_payload h;
        })
    by false e =
        let h : header_size ≤ length xs = ltb-false (length xs) header_size e in
        rw (with-payload m x (omega arith))
        (record {
          count = counted;
          header-size = held.header-size;
          payload-size = length-set m.payload (m.taken - header_size) x ∙ held.payload-size;
          header = behind-header h;
          payload = in-payload h (ltb (length xs - header_size) max_payload) refl;
        })

-- a message is whole exactly where the octets read begin with a whole message
pub holding-whole : (m : Message) (xs : List ℕ) → Holding m xs → whole m ≡ begins_whole xs
holding-whole m xs held = by (ltb (length xs) header_size) refl
  where
    by : (b : Bool) → ltb (length xs) header_size ≡ b → whole m ≡ begins_whole xs
    by true e =
        let h : length xs < header_size = ltb-true (length xs) header_size e in
        lt-leb (message_length m.header) m.taken (omega arith)
        ∙ sym (lt-leb (message_length xs) (length xs) (omega arith))
    by false e =
        let h : header_size ≤ length xs = ltb-false (length xs) header_size e in
        ap₂ (λ (l : List ℕ) (n : ℕ). leb (message_length l) n) (holding-header m xs held h) held.count
        ∙ ap (λ (n : ℕ). leb (header_size + n) (length xs)) (size-take xs)

-- more octets behind a whole first message make no difference to it
pub first-append : (xs ys : List ℕ) → begins_whole xs ≡ true → (begins_whole (xs ++ ys) ≡ true) × (first_message (xs ++ ys) ≡ first_message xs)
first-append xs ys w =
    let h : message_length xs ≤ length xs = leb-true (message_length xs) (length xs) w in
    let size : size_in (xs ++ ys) ≡ size_in xs = size-append xs ys (omega arith) in (
      le-leb (message_length (xs ++ ys)) (length (xs ++ ys)) (omega (arith, length-append xs ys)),
      ap (λ (n : ℕ). take (header_size + n) (xs ++ ys)) size ∙ take-append-le (message_length xs) xs ys h,
    )

-- octets that do not begin with a whole message end before the first message does, whatever follows them
part-least : (xs ys : List ℕ) → begins_whole xs ≡ false → length xs < message_length (xs ++ ys)
part-least xs ys part = by (ltb (length xs) header_size) refl
  where
    by : (b : Bool) → ltb (length xs) header_size ≡ b → length xs < message_length (xs ++ ys)
    by true e =
        let h : length xs < header_size = ltb-true (length xs) header_size e in
        omega arith
    by false e =
        let h : length xs < message_length xs = leb-false (message_length xs) (length xs) part in
        let size : size_in (xs ++ ys) ≡ size_in xs = size-append xs ys (ltb-false (length xs) header_size e) in
        omega arith

-- so with one octet more they are no more than the first message
first-snoc : (xs : List ℕ) (x : ℕ) → begins_whole xs ≡ false → first_message (xs ++ (x ∷ [])) ≡ xs ++ (x ∷ [])
first-snoc xs x part =
    let zs = xs ++ (x ∷ []) in
    take_all (message_length zs) zs (omega (arith, part-least xs (x ∷ []) part, length-snoc xs x))

-- behind the octet x more is read unless the message is whole with it
next-received : (ys : List ℕ) (m : Message) (xs : List ℕ) (x : ℕ) → Holding m (xs ++ (x ∷ [])) → begins_whole xs ≡ false
    → (begins_whole (xs ++ (x ∷ [])) ≡ false → Holding (received ys m) (present_part (xs ++ (x ∷ []) ++ ys)))
    → (b : Bool) → begins_whole (xs ++ (x ∷ [])) ≡ b → Holding (received ys m) (present_part (xs ++ (x ∷ []) ++ ys))
next-received ys m xs x held part more true e =
    let zs = xs ++ (x ∷ []) in
    let first = first-append zs ys e in
    let read : present_part (zs ++ ys) ≡ zs = part-whole (zs ++ ys) first.0 ∙ first.1 ∙ first-snoc xs x part in
    rw (received-whole ys m (holding-whole m zs held ∙ e), read) held
next-received ys m xs x held part more false e = more e

-- octets of ys are read until the message is whole or none is left
pub holding-received : (ys : List ℕ) (m : Message) (xs : List ℕ) → Holding m xs → begins_whole xs ≡ false
    → Holding (received ys m) (present_part (xs ++ ys))
holding-received [] m xs held part = rw (received_none m, append-nil xs, part-all xs part) held
holding-received (x ∷ ys) m xs held part =
    let zs = xs ++ (x ∷ []) in
    rw (received-next x ys m (holding-whole m xs held ∙ part), ← (append_snoc xs x ys))
    (next-received ys (with_octet m x) xs x (holding-next m xs x held) part
    (λ more. holding-received ys (with_octet m x) zs (holding-next m xs x held) more)
    (begins_whole zs)
    refl)

-- what is read of a stream is its first octets
present-take : (xs : List ℕ) → present_part xs ≡ take (length (present_part xs)) xs
present-take xs = by (begins_whole xs) refl
  where
    by : (b : Bool) → begins_whole xs ≡ b → present_part xs ≡ take (length (present_part xs)) xs
    by true e =
        let n = message_length xs in
        let size : length (first_message xs) ≡ n = length-take-le n xs (leb-true n (length xs) e) in
        rw (part-whole xs e) (sym (ap (λ (n : ℕ). take n xs) size))
    by false e = rw (part-all xs e) (sym (take-length xs))

-- what is read of a stream is no longer than the stream, and at least what was read before
pub present-most : (xs : List ℕ) → length (present_part xs) ≤ length xs
present-most xs = omega (arith, ap length (present-take xs), length-take (length (present_part xs)) xs)

pub present-least : (xs ys : List ℕ) → begins_whole xs ≡ false → length xs ≤ length (present_part (xs ++ ys))
present-least xs ys part = by (begins_whole (xs ++ ys)) refl
  where
    by : (b : Bool) → begins_whole (xs ++ ys) ≡ b → length xs ≤ length (present_part (xs ++ ys))
    by true e =
        let n = message_length (xs ++ ys) in
        let size : length (first_message (xs ++ ys)) ≡ n = length-take-le n (xs ++ ys) (leb-true n (length (xs ++ ys)) e) in
        rw (part-whole (xs ++ ys) e, size) (omega (arith, part-least xs ys part))
    by false e = rw (part-all (xs ++ ys) e, length-append xs ys) (omega arith)

-- it is the octets read before, and octets of ys
pub present-prefix : (xs ys : List ℕ) → begins_whole xs ≡ false
    → present_part (xs ++ ys) ≡ xs ++ take (length (present_part (xs ++ ys)) - length xs) ys
present-prefix xs ys part =
    let n = length (present_part (xs ++ ys)) in
    let least : length xs ≤ n = present-least xs ys part in
    let count : n ≡ length xs + (n - length xs) = omega arith in
    present-take (xs ++ ys) ∙ ap (λ (k : ℕ). take k (xs ++ ys)) count ∙ take-append-add xs ys (n - length xs)

-- what is read of a stream is a whole message exactly where the stream begins with one
pub present-whole : (xs : List ℕ) → begins_whole (present_part xs) ≡ begins_whole xs
present-whole xs = by (begins_whole xs) refl
  where
    by : (b : Bool) → begins_whole xs ≡ b → begins_whole (present_part xs) ≡ begins_whole xs
    by true e =
        let most = leb-true (message_length xs) (length xs) e in
        let size : length (first_message xs) ≡ message_length xs = length-take-le (message_length xs) xs most in
        let same : message_length (first_message xs) ≡ message_length xs =
        ap (λ (n : ℕ). header_size + n) (size-front (message_length xs) xs (omega arith)) in
        rw (part-whole xs e) (le-leb (message_length (first_message xs)) (length (first_message xs)) (omega arith) ∙ sym e)
    by false e = ap begins_whole (part-all xs e)
