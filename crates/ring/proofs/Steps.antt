-- Octets read into a message one by one are octets read into its header and into its payload in blocks.
use Rattle.octets.specs.Prelude.{◌≡◌, refl, sym, ap, ap₂, ◌∙◌, List, [], ◌∷◌, ◌++◌, append_assoc, Bool, true, false, ℕ, zero, suc, ◌+◌, ◌-◌, ◌≤◌, min}
use Rattle.octets.specs.Prelude.{add-zero, arith, length, set, take, drop, length-set, length-take, length-drop, sets, sets-eq, drop-drop, leb, ltb}
use Rattle.octets.specs.Prelude.{lt-leb, ltb-true, ltb-false, leb-true, leb-false}
use lib.Seq.{set_out, take-nil}
use borrow.Rule.Slice.PartMut.{put_mid}
use Rattle.messages.specs.Wire.{header_size}
use Rattle.page.specs.Page.{advanced, octets_in}
use Rattle.ring.specs.Reading.{message_length, is_whole, whole, with_octet, received, received_from, Message, Incoming}
use Rattle.ring.specs.Inner.{header_moved, payload_moved}
use Rattle.ring.proofs.Turns.{parts, with-header, with-payload, received_none, received-next, received-whole}
use Rattle.page.proofs.Places.{octets-same, octets-length, octets-none, octets-add, octets-take}

-- octets of one list and then of another
append-by : (b : Bool) (x : ℕ) (xs ys : List ℕ) (m : Message) → whole m ≡ b
    → received (xs ++ ys) (with_octet m x) ≡ received ys (received xs (with_octet m x))
    → received (x ∷ (xs ++ ys)) m ≡ received ys (received (x ∷ xs) m)
append-by true x xs ys m w e =
    received-whole (x ∷ (xs ++ ys)) m w ∙ sym (received-whole ys m w) ∙ ap (received ys) (sym (received-whole (x ∷ xs) m w))
append-by false x xs ys m w e = received-next x (xs ++ ys) m w ∙ e ∙ ap (received ys) (sym (received-next x xs m w))

pub received-append : (xs ys : List ℕ) (m : Message) → received (xs ++ ys) m ≡ received ys (received xs m)
received-append [] ys m = ap (received ys) (sym (received_none m))
received-append (x ∷ xs) ys m = append-by (whole m) x xs ys m refl (received-append xs ys (with_octet m x))

-- octets that all go into the header
pub received-header : (xs : List ℕ) (m : Message) → m.taken + length xs ≤ header_size
    → received xs m ≡ parts (sets m.header m.taken xs) m.payload (m.taken + length xs)
received-header [] m h = rw (add-zero m.taken) (received_none m)
received-header (x ∷ xs) m h =
    let next = parts (set m.header m.taken x) m.payload (suc m.taken) in
    let count : suc m.taken + length xs ≡ m.taken + suc (length xs) = omega arith in
    received-next x xs m (lt-leb (message_length m.header) m.taken (omega arith))
    ∙ ap (received xs) (with-header m x (omega arith))
    ∙ received-header xs next (omega arith)
    ∙ ap (parts (sets m.header m.taken (x ∷ xs)) m.payload) count

-- octets that all go into the payload
pub received-payload : (xs : List ℕ) (m : Message) → header_size ≤ m.taken → m.taken + length xs ≤ message_length m.header
    → received xs m ≡ parts m.header (sets m.payload (m.taken - header_size) xs) (m.taken + length xs)
received-payload [] m h l = rw (add-zero m.taken) (received_none m)
received-payload (x ∷ xs) m h l =
    let next = parts m.header (set m.payload (m.taken - header_size) x) (suc m.taken) in
    let count : suc m.taken + length xs ≡ m.taken + suc (length xs) = omega arith in
    let place : suc m.taken - header_size ≡ suc (m.taken - header_size) = omega arith in
    received-next x xs m (lt-leb (message_length m.header) m.taken (omega arith))
    ∙ ap (received xs) (with-payload m x h)
    ∙ received-payload xs next (omega arith) (omega arith)
    ∙ ap₂ (λ (i k : ℕ). parts m.header (sets (set m.payload (m.taken - header_size) x) i xs) k) place count

-- octets of an area: none, and some with others behind them
module _ (area : ℕ) (page : List ℕ) (c : ℕ) where
  pub none-set : (l : List ℕ) (i k : ℕ) → k ≡ 0 → sets l i (octets_in area page c k) ≡ l
  none-set l i k z = rw (z, octets-none area page c) refl

  none-received : (k : ℕ) (m : Message) → k ≡ 0 → received (octets_in area page c k) m ≡ m
  none-received k m z = rw (z, octets-none area page c) (received_none m)

  received-add : (a b : ℕ) (m m₁ m₂ : Message) → received (octets_in area page c a) m ≡ m₁
      → received (octets_in area page (c + a) b) m₁ ≡ m₂ → received (octets_in area page c (a + b)) m ≡ m₂
  received-add a b m m₁ m₂ e f =
      let xs = octets_in area page c a in
      let ys = octets_in area page (c + a) b in
      rw (octets-add area page c a b) (received-append xs ys m ∙ ap (received ys) e ∙ f)

-- of n octets, `some` go into the header of m, which is then h, and `more` into the payload
module _ (n : ℕ) (m : Message) (h : List ℕ) (some more : ℕ) (es : some ≡ header_moved m.taken n) where
  module _ (em : more ≡ payload_moved h (m.taken + some) (n - some)) where
    -- as the header is whole by then or not
    none_more : ltb (m.taken + some) header_size ≡ true → more ≡ 0
    none_more t = em ∙ rw t refl

    some_more : ltb (m.taken + some) header_size ≡ false → more ≡ min (message_length h - (m.taken + some)) (n - some)
    some_more t = em ∙ rw t refl

    pub moved-most : some + more ≤ n
    moved-most = by (ltb (m.taken + some) header_size) refl
      where
        by : (b : Bool) → ltb (m.taken + some) header_size ≡ b → some + more ≤ n
        by true t = let e = none_more t in omega arith
        by false t = let e = some_more t in omega arith

    -- octets are left only behind a whole message
    none_left : is_whole h (m.taken + (some + more)) ≡ false → n - (some + more) ≡ 0
    none_left w = by (ltb (m.taken + some) header_size) refl
      where
        by : (b : Bool) → ltb (m.taken + some) header_size ≡ b → n - (some + more) ≡ 0
        by true t = let e = none_more t in omega (arith, ltb-true)
        by false t = let e = some_more t in omega (arith, leb-false)

-- the header once its octets have been read from count c on
module _ (area : ℕ) (page : List ℕ) (c n : ℕ) (m : Message) (h : List ℕ) (some : ℕ) (es : some ≡ header_moved m.taken n) where
  module _ (eh : h ≡ sets m.header m.taken (octets_in area page c some)) where
    header-same : some ≡ 0 → h ≡ m.header
    header-same z = eh ∙ none-set area page c m.header m.taken some z

    -- no octets are there behind those that the header says
    pub taken-most : whole m ≡ false → m.taken + some ≤ message_length h
    taken-most waiting = by (leb m.taken header_size) refl
      where
        by : (b : Bool) → leb m.taken header_size ≡ b → m.taken + some ≤ message_length h
        by true t = omega (arith, leb-true)
        by false t =
            let z : some ≡ 0 = omega (arith, leb-false) in
            rw (header-same z) (omega (arith, leb-false))

    first_block : received (octets_in area page c some) m ≡ parts h m.payload (m.taken + some)
    first_block = by (leb m.taken header_size) refl
      where
        size : length (octets_in area page c some) ≡ some
        size = octets-length area page c some

        by : (b : Bool) → leb m.taken header_size ≡ b → received (octets_in area page c some) m ≡ parts h m.payload (m.taken + some)
        by true t =
            received-header (octets_in area page c some) m (rw size (omega (arith, leb-true)))
            ∙ ap₂ (λ (x : List ℕ) (k : ℕ). parts x m.payload (m.taken + k)) (sym eh) size
        by false t =
            let z : some ≡ 0 = omega (arith, leb-false) in
            none-received area page c some m z ∙ ap₂ (λ (x : List ℕ) (k : ℕ). parts x m.payload k) (sym (header-same z)) (omega arith)

    -- the message once its payload's octets have been read too
    module _ (p : List ℕ) (more : ℕ) (waiting : whole m ≡ false) (em : more ≡ payload_moved h (m.taken + some) (n - some)) where
      module _ (ep : p ≡ sets m.payload (m.taken + some - header_size) (octets_in area page (advanced c some) more)) where
        abbrev headed : Message
        headed = parts h m.payload (m.taken + some)

        abbrev both : Message
        both = parts h p (m.taken + (some + more))

        second_block : received (octets_in area page (c + some) more) headed ≡ both
        second_block = by (ltb (m.taken + some) header_size) refl
          where
            xs : List ℕ
            xs = octets_in area page (c + some) more

            by : (b : Bool) → ltb (m.taken + some) header_size ≡ b → received xs headed ≡ both
            by true t =
                let z = none_more n m h some more es em t in
                none-received area page (c + some) more headed z
                ∙ ap₂ (λ (y : List ℕ) (k : ℕ). parts h y k)
                (sym (ep ∙ none-set area page (advanced c some) m.payload (m.taken + some - header_size) more z)) (omega arith)
            by false t =
                let size : length xs ≡ more = octets-length area page (c + some) more in
                let same = octets-same area page (c + some) (advanced c some) more (omega arith) in
                let e = some_more n m h some more es em t in
                let w = taken-most waiting in
                received-payload xs headed (ltb-false _ _ t) (rw size (omega arith))
                ∙ ap₂ (λ (y : List ℕ) (k : ℕ). parts h y k)
                (ap (sets m.payload (m.taken + some - header_size)) same ∙ sym ep) (rw size (omega arith))

        rest-left : (rest : ℕ) → rest ≡ n - (some + more) → received (octets_in area page (c + some + more) rest) both ≡ both
        rest-left rest er = by (whole both) refl
          where
            by : (b : Bool) → whole both ≡ b → received (octets_in area page (c + some + more) rest) both ≡ both
            by true w = received-whole (octets_in area page (c + some + more) rest) both w
            by false w = none-received area page (c + some + more) rest both (er ∙ none_left n m h some more es em w)

        blocks : received (octets_in area page c n) m ≡ both
        blocks =
            let rest = n - (some + more) in
            let most = moved-most n m h some more es em in
            let count : n ≡ some + (more + rest) = omega arith in
            ap (λ (k : ℕ). received (octets_in area page c k) m) count
            ∙ received-add area page c some (more + rest) m headed both first_block
            (received-add area page (c + some) more rest headed both both second_block (rest-left rest refl))

-- the reading side alike
pub received-blocks : (area : ℕ) (page : List ℕ) (i : Incoming) (n : ℕ) (h p : List ℕ) (some more : ℕ) → whole i.message ≡ false
    → some ≡ header_moved i.message.taken n
    → h ≡ sets i.message.header i.message.taken (octets_in area page i.cons some)
    → more ≡ payload_moved h (i.message.taken + some) (n - some)
    → p ≡ sets i.message.payload (i.message.taken + some - header_size) (octets_in area page (advanced i.cons some) more)
    → record { message = parts h p (i.message.taken + (some + more)); cons = advanced i.cons (some + more) }
    ≡ received_from area page i n
unfolding received_from
received-blocks area page i n h p some more waiting es eh em ep =
    let m = i.message in
    let c = i.cons in
    let count : m.taken + (some + more) - m.taken ≡ some + more = omega arith in
    rw (blocks area page c n m h some es eh p more waiting em ep, count) refl

-- stores past the end of a list do nothing
pub sets-out : (l xs : List ℕ) (i : ℕ) → length l ≤ i → sets l i xs ≡ l
sets-out l [] i h = refl
sets-out l (x ∷ xs) i h = rw (set_out l i x h) (sets-out l xs (suc i) (omega arith))

-- of stores that run past the end, those before it count
pub sets_over : (l xs : List ℕ) (i k : ℕ) → k ≡ min (length l - i) (length xs) → i ≤ length l → sets l i xs ≡ sets l i (take k xs)
sets_over l [] i k e h = rw (take-nil k) refl
sets_over l (x ∷ xs) i zero e h = sets-out l (x ∷ xs) i (omega arith)
sets_over l (x ∷ xs) i (suc k) e h =
    let size = length-set l i x in
    sets_over (set l i x) xs (suc i) k (rw size (omega arith)) (rw size (omega arith))

-- a part of a list, lent to be filled with as many of r octets as fit there, comes back with them stored
pub part-read : (area : ℕ) (page d y : List ℕ) (c a k r : ℕ) → y ≡ octets_in area page c (length (take (a + k - a) (drop a d)))
    → a ≤ length d → k ≡ min (length d - a) r → put_mid a (a + k - a) d y ≡ sets d a (octets_in area page c r)
part-read area page d y c a k r e h ek =
    let xs = octets_in area page c k in
    let ys = octets_in area page c r in
    let part : a + k - a ≡ k = omega arith in
    let filled : length (take (a + k - a) (drop a d)) ≡ k = rw part (simp (length-take, length-drop) (omega arith)) in
    let size : length xs ≡ k = octets-length area page c k in
    let size-all : length ys ≡ r = octets-length area page c r in
    let stored = sets_over d ys a k (rw size-all ek) h ∙ ap (sets d a) (octets-take area page c k r (omega arith)) in
    ap₂ (λ (i : ℕ) (z : List ℕ). put_mid a i d z) part (e ∙ ap (octets_in area page c) filled)
    ∙ ap (λ (z : List ℕ). take a d ++ (xs ++ z)) (drop-drop k a d ∙ ap (λ (i : ℕ). drop (a + i) d) (sym size))
    ∙ sym (append_assoc (take a d) xs (drop (a + length xs) d))
    ∙ sym (stored ∙ sets-eq xs d a (rw size (omega arith)))
