-- What stands in the output buffer after a header and a payload are written into it.
use Rattle.octets.specs.Prelude.{◌≡◌, refl, sym, ap, ap₂, ◌∙◌, List, [], ◌∷◌, ◌++◌, append_assoc, append-nil, ℕ, ◌+◌, ◌-◌, ◌*◌, ◌≤◌, ◌<◌, zero-add}
use Rattle.octets.specs.Prelude.{add-one, arith, length, get_or, take, drop, length-append, sets, sets-eq, take_at}
use Rattle.octets.specs.Prelude.{drop_at, drop-drop, take_all, length-take-le, le-leb, lt-leb}
use lib.Seq.{take-suc}
use borrow.Rule.Slice.PartMut.{put_mid}
use Rattle.octets.specs.Numbers.{octets_of}
use Rattle.octets.specs.Outcome.{value, refused}
use Rattle.octets.proofs.Copies.{sets-append}
use Rattle.octets.proofs.Numbers.{length-octets}
use Rattle.messages.specs.Wire.{header_size, field_size, header, message}
use Rattle.messages.proofs.Parts.{length-header, message-is, length-message}
use Rattle.guest_messages.specs.Refusals.{buffer_too_short}
use Rattle.guest_messages.specs.Writer.{fields_of, written}

-- a list whose first n octets are another's, and whose others are those of b
module _ (a b c : List ℕ) (n : ℕ) (e : c ≡ a ++ drop n b) (l : length a ≡ n) where
  front : take n c ≡ a
  front = rw e (take_at a (drop n b) n l)

  rest : (k : ℕ) → drop (n + k) c ≡ drop (n + k) b
  rest k = sym (drop-drop k n c) ∙ ap (drop k) (rw e (drop_at a (drop n b) n l)) ∙ drop-drop k n b

-- two stores of four octets are a header
pub header_put : (t n : ℕ) (b b' : List ℕ) → header_size ≤ length b → b' ≡ sets b 0 (octets_of 4 t)
    → sets b' 4 (octets_of 4 n) ≡ header t n ++ drop header_size b
unfolding header
header_put t n b b' h e =
    let o = octets_of 4 t in
    let place : 4 ≡ 0 + length o = sym (zero-add (length o) ∙ length-octets 4 t) in
    let all : 0 + length (header t n) ≡ header_size = zero-add (length (header t n)) ∙ length-header t n in
    ap₂ (λ (x : List ℕ) (i : ℕ). sets x i (octets_of 4 n)) e place
    ∙ sym (sets-append b o (octets_of 4 n) 0)
    ∙ sets-eq (header t n) b 0 (rw all h)
    ∙ ap (λ (i : ℕ). header t n ++ drop i b) all

-- a message that fits, and one that does not
pub written-whole : (m b : List ℕ) → length m ≤ length b → record { answer = value (length m); buffer = m ++ drop (length m) b } ≡ written (value m) b
unfolding written
written-whole m b h = rw (le-leb _ _ h) refl

pub written-short : (m b : List ℕ) → length b < length m → record { answer = refused buffer_too_short; buffer = b } ≡ written (value m) b
unfolding written
written-short m b h = rw (lt-leb _ _ h) refl

-- a message by its payload: it does not fit, or it is a header with the payload behind it
module _ (t : ℕ) (p b : List ℕ) where
  whole : length (message t p) ≡ header_size + length p
  whole = length-message t p

  pub message_short : length b < header_size + length p → written (value (message t p)) b ≡ record { answer = refused buffer_too_short; buffer = b }
  message_short h = sym (written-short (message t p) b (rw whole h))

  pub message_put : header_size + length p ≤ length b
      → written (value (message t p)) b
      ≡ record { answer = value (header_size + length p); buffer = header t (length p) ++ (p ++ drop (header_size + length p) b) }
  message_put h =
      let ends = drop (header_size + length p) b in
      sym (written-whole (message t p) b (rw whole h))
      ∙ ap₂ (λ (n : ℕ) (x : List ℕ). record { answer = value n; buffer = x }) whole
      (ap₂ (λ (x : List ℕ) (n : ℕ). x ++ drop n b) (message-is t p) whole ∙ append_assoc (header t (length p)) p ends)

-- and it is there once the payload is put behind the header
pub payload_put : (t size n : ℕ) (p b b' : List ℕ) → length p ≡ size → n ≡ header_size + size → n ≤ length b
    → b' ≡ header t size ++ drop header_size b
    → record { answer = value n; buffer = put_mid header_size (n - header_size) b' p } ≡ written (value (message t p)) b
payload_put t size n p b b' l e room put =
    let h = header t size in
    let long = length-header t size in
    let k = n - header_size in
    let same : size ≡ length p = sym l in
    let all : header_size + k ≡ header_size + length p = omega arith in
    ap₂ (λ (x : ℕ) (y : List ℕ). record { answer = value x; buffer = y }) (rw l e)
    (ap₂ (λ (x y : List ℕ). x ++ (p ++ y)) (front h b b' header_size put long ∙ ap (header t) same)
    (drop-drop k header_size b' ∙ rest h b b' header_size put long k ∙ ap (λ (x : ℕ). drop x b) all))
    ∙ sym (message_put t p b (omega arith))

pub length_fields : (xs : List ℕ) → length (fields_of xs) ≡ length xs * field_size
unfolding fields_of
length_fields [] = refl
length_fields (x ∷ xs) = length-append (octets_of field_size x) (fields_of xs) ∙ ap₂ ◌+◌ (length-octets field_size x) (length_fields xs) ∙ omega arith

-- the same of fields
module _ (t : ℕ) (xs b : List ℕ) where
  pub fields_short : length b < header_size + length xs * field_size
      → written (value (message t (fields_of xs))) b ≡ record { answer = refused buffer_too_short; buffer = b }
  fields_short h = message_short t (fields_of xs) b (rw length_fields h)

  pub fields_put : header_size + length xs * field_size ≤ length b
      → written (value (message t (fields_of xs))) b
      ≡ record {
        answer = value (header_size + length xs * field_size);
        buffer = header t (length xs * field_size) ++ (fields_of xs ++ drop (header_size + length xs * field_size) b);
      }
  fields_put h = rw (← length_fields) (message_put t (fields_of xs) b (rw length_fields h))

-- no field, and one
pub fields_none : fields_of [] ≡ []
unfolding fields_of
fields_none = refl

pub fields_one : (x : ℕ) → fields_of (x ∷ []) ≡ octets_of field_size x
unfolding fields_of
fields_one x = append-nil (octets_of field_size x)

fields_snoc : (xs : List ℕ) (x : ℕ) → fields_of (xs ++ (x ∷ [])) ≡ fields_of xs ++ octets_of field_size x
unfolding fields_of
fields_snoc [] x = append-nil (octets_of field_size x)
fields_snoc (y ∷ xs) x = rw (fields_snoc xs x, append_assoc) refl

-- one field more behind a header and k fields
pub fields_next : (t n : ℕ) (xs b b' : List ℕ) (k : ℕ) → k < length xs → header_size + length xs * field_size ≤ length b'
    → b' ≡ header t n ++ (fields_of (take k xs) ++ drop (header_size + k * field_size) b)
    → sets b' (header_size + k * field_size) (octets_of field_size (get_or xs k 0))
    ≡ header t n ++ (fields_of (take (k + 1) xs) ++ drop (header_size + (k + 1) * field_size) b)
fields_next t n xs b b' k l long e =
    let h = header t n in
    let f = fields_of (take k xs) in
    let o = octets_of field_size (get_or xs k 0) in
    let at = header_size + k * field_size in
    let eight : length o ≡ field_size = length-octets field_size (get_or xs k 0) in
    let here : length f ≡ k * field_size = length_fields (take k xs) ∙ ap (λ (n : ℕ). n * field_size) (length-take-le k xs (omega arith)) in
    let both : length (h ++ f) ≡ at = length-append h f ∙ ap₂ ◌+◌ (length-header t n) here in
    let place : at + length o ≡ header_size + (k + 1) * field_size = ap (λ (n : ℕ). at + n) eight ∙ omega arith in
    let more : f ++ o ≡ fields_of (take (k + 1) xs) = sym (rw (add-one, take-suc xs k 0 l) (fields_snoc (take k xs) (get_or xs k 0))) in
    let apart : b' ≡ (h ++ f) ++ drop at b = e ∙ sym (append_assoc h f (drop at b)) in
    sets-eq o b' at (rw place (omega arith))
    ∙ ap₂ (λ (x y : List ℕ). x ++ o ++ y) (front (h ++ f) b b' at apart both) (rest (h ++ f) b b' at apart both (length o))
    ∙ rw (append_assoc h f o, more, append_assoc h (fields_of (take (k + 1) xs)) (drop (at + length o) b), place) refl

-- what the tactics take for a message of fields
pub ruleset fields = (fields_short, fields_put, fields_next, fields_none, take_all)
