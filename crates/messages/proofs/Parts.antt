-- Where the parts of a message stand: what is written into its header and payload is what is read there.
use Rattle.octets.specs.Prelude.{◌≡◌, refl, sym, ap, ◌∙◌, List, ◌++◌, append_assoc, ℕ, ◌+◌, ◌^◌, ◌<◌, arith, length, take, drop}
use Rattle.octets.specs.Prelude.{length-append, length-drop, take-append-drop, drop_at, take-add}
use Rattle.octets.specs.Numbers.{AreOctets, number_at, octets_of}
use Rattle.octets.proofs.Numbers.{length-octets, number_behind, number-octets, octets-number}
use Rattle.messages.specs.Requests.{carried_out, carried_message}
use Rattle.messages.specs.Settings.{Settings}
use Rattle.messages.specs.Wire.{header_size, header, message, type_in, size_in, payload_in}

pub length-header : (t n : ℕ) → length (header t n) ≡ header_size
unfolding header
length-header t n = length-append (octets_of 4 t) (octets_of 4 n) ∙ rw (length-octets 4 t, length-octets 4 n) refl

-- the type and the size in a header, whatever stands behind it
pub type-header : (t n : ℕ) (rest : List ℕ) → t < 256 ^ 4 → type_in (header t n ++ rest) ≡ t
unfolding header
type-header t n rest h = rw append_assoc (number-octets 4 t (octets_of 4 n ++ rest) h)

pub size-header : (t n : ℕ) (rest : List ℕ) → n < 256 ^ 4 → size_in (header t n ++ rest) ≡ n
unfolding header
size-header t n rest h =
    let place : 4 ≡ length (octets_of 4 t) + 0 = ap (λ (k : ℕ). k + 0) (sym (length-octets 4 t)) in
    rw append_assoc
    (ap (number_at 4 (octets_of 4 t ++ (octets_of 4 n ++ rest))) place
    ∙ number_behind 4 (octets_of 4 t) (octets_of 4 n ++ rest) 0
    ∙ number-octets 4 n rest h)

module _ (t : ℕ) (p : List ℕ) where
  pub message-is : message t p ≡ header t (length p) ++ p
  unfolding message
  message-is = refl

  pub length-message : length (message t p) ≡ header_size + length p
  unfolding message
  length-message = length-append (header t (length p)) p ∙ ap (λ (n : ℕ). n + length p) (length-header t (length p))

  pub payload-message : payload_in (message t p) ≡ p
  unfolding message
  payload-message = drop_at (header t (length p)) p header_size (length-header t (length p))

  pub number-payload : (k i : ℕ) → number_at k (message t p) (header_size + i) ≡ number_at k p i
  unfolding message
  number-payload k i =
      ap (λ (n : ℕ). number_at k (header t (length p) ++ p) (n + i)) (sym (length-header t (length p)))
      ∙ number_behind k (header t (length p)) p i

-- octets as long as their header says are the message of its type and payload
pub message-back : (m : List ℕ) → AreOctets m → length m ≡ header_size + size_in m → m ≡ message (type_in m) (payload_in m)
unfolding message header
message-back m o long =
    let type : octets_of 4 (type_in m) ≡ take 4 m = octets-number 4 m 0 o (omega arith) in
    let size : octets_of 4 (size_in m) ≡ take 4 (drop 4 m) = octets-number 4 m 4 o (omega arith) in
    let rest : length (payload_in m) ≡ size_in m = length-drop header_size m ∙ omega arith in
    let front : take header_size m ≡ octets_of 4 (type_in m) ++ octets_of 4 (length (payload_in m)) = take-add 4 4 m ∙ rw (type, rest, size) refl in
    sym (take-append-drop header_size m) ∙ ap (λ (x : List ℕ). x ++ payload_in m) front

-- carrying out a message takes its own type, size and payload
pub carried-message : (s : Settings) (t : ℕ) (p rest : List ℕ) → t < 256 ^ 4 → length p < 256 ^ 4
    → carried_message s (message t p) rest ≡ carried_out s t (length p) (p ++ rest)
unfolding message
carried-message s t p rest h l =
    rw (type-header t (length p) p h, size-header t (length p) p l, payload-message t p) refl
