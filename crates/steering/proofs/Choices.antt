-- How the steps of the code make up the choice.
use Rattle.octets.specs.Prelude.{◌≡◌, refl, sym, ap, ◌∙◌, List, Bool, true, false, cond, ℕ, zero, suc, ◌+◌, ◌-◌, ◌≤◌, arith, length, take, drop, lit≤}
use lib.Seq.{take-take}
use Rattle.toeplitz.specs.Hash.{published_hash}
use Rattle.toeplitz.specs.TwoWay.{last_type, type_number, input_size}
use Rattle.packet.specs.Packets.{PacketType, no_type, hash_type, kind_of, input_start, input_of, none, typed, look_at, look_of}
use Rattle.packet.specs.declared.IpPacket.{IpPacket}
use Rattle.std.specs.Prelude.{Option, None, Some}
use Rattle.packet.proofs.Theorems.{input-inside, input-length}
use Rattle.steering.specs.Steering.{is_set, plain_type, type_used, Choice, unhashed, hashed_to, chosen, steered}
use Rattle.steering.specs.Inner.{plain_size, steered_ip}

-- the plain type's input is the input of the packet's own type without the ports
plain-input : (t : ℕ) (p : List ℕ) → t ≤ last_type → take (plain_size t) (input_of t p) ≡ input_of (plain_type t) p
unfolding input_of
plain-input zero p h = take-take 8 8 (drop 12 p) (lit≤ tt)
plain-input (suc zero) p h = take-take 8 12 (drop 12 p) (lit≤ tt)
plain-input (suc (suc zero)) p h = take-take 32 32 (drop 8 p) (lit≤ tt)
plain-input (suc (suc (suc zero))) p h = take-take 32 36 (drop 8 p) (lit≤ tt)
plain-input (suc (suc (suc (suc t)))) p h = absurd (omega arith)

-- the choice for an input of type t: by its own type, by the plain type, or none
module _ (flags : ℕ) (key table input : List ℕ) (t : ℕ) where
  pub steered-own : is_set flags t ≡ true → hashed_to t (published_hash key input) table ≡ steered_ip flags key table t input
  unfolding steered_ip
  steered-own own = rw own refl

  pub steered-plain : is_set flags t ≡ false → is_set flags (plain_type t) ≡ true
      → hashed_to (plain_type t) (published_hash key (take (plain_size t) input)) table ≡ steered_ip flags key table t input
  unfolding steered_ip
  steered-plain not_own plain = rw (not_own, plain) refl

  pub steered-none : is_set flags t ≡ false → is_set flags (plain_type t) ≡ false → unhashed 0 ≡ steered_ip flags key table t input
  unfolding steered_ip
  steered-none not_own not_plain = rw (not_own, not_plain) refl

-- where nothing is found the packet is of no kind
none-kind : (k : PacketType) → none ≡ look_at k → k ≡ no_type
unfolding look_at
none-kind no_type e = refl
none-kind (hash_type t) e = let z : ◌≡◌ {A = ℕ} 0 1 = cc in absurd (omega arith)

-- and goes to queue 0
pub steered-not-ip : (flags : ℕ) (key table p : List ℕ) (r : Option IpPacket) → look_of r ≡ look_at (kind_of p) → r ≡ None
    → unhashed 0 ≡ steered flags key table p
unfolding type_used chosen
steered-not-ip flags key table p r e q = rw (none-kind (kind_of p) (sym (ap look_of q) ∙ e)) refl

-- what is known of a packet of type t whose places are found
pub record Places (p : List ℕ) (t addresses ports end : ℕ) : Type 0 where
  pub kind : kind_of p ≡ hash_type t
  pub known : t ≤ last_type
  pub begins : addresses ≡ input_start t
  pub parted : ports ≡ input_start t + plain_size t
  pub ends : end ≡ input_start t + input_size t
  pub inside : end ≤ length p

-- the places found are those of the packet's own type
typed-kind : (k : PacketType) (t addresses ports end : ℕ) → typed t addresses ports end ≡ look_at k
    → (k ≡ hash_type t) × (addresses ≡ input_start t) × (ports ≡ input_start t + plain_size t) × (end ≡ input_start t + input_size t)
unfolding look_at
typed-kind no_type t addresses ports end e = let z : ◌≡◌ {A = ℕ} 0 1 = cc in absurd (omega arith)
typed-kind (hash_type u) t addresses ports end e = let same : t ≡ u = cc in rw same (refl, cc, cc, cc)

-- and they stand inside the packet
pub places : (p : List ℕ) (f : IpPacket) → look_of (Some f) ≡ look_at (kind_of p) → Places p (type_number f.hash_type) f.addresses f.ports f.end
places p f e =
    let t = type_number f.hash_type in
    let x = typed-kind (kind_of p) t f.addresses f.ports f.end e in
    let y = input-inside p t x.0 in
    record { kind = x.0; known = y.0; begins = x.1; parted = x.2; ends = x.3; inside = rw x.3 y.1 }

-- the choice for a packet of type t is the choice for its input
steered-ip : (flags : ℕ) (key table p : List ℕ) (t : ℕ) → kind_of p ≡ hash_type t → t ≤ last_type
    → steered_ip flags key table t (input_of t p) ≡ steered flags key table p
unfolding steered_ip type_used chosen
steered-ip flags key table p t e h = rw e (by (is_set flags t) (is_set flags (plain_type t)))
  where
    to : ℕ → List ℕ → Choice
    to u input = hashed_to u (published_hash key input) table

    by : (s u : Bool)
        → cond s (to t (input_of t p)) (cond u (to (plain_type t) (take (plain_size t) (input_of t p))) (unhashed 0))
        ≡ chosen key table p (cond s (hash_type t) (cond u (hash_type (plain_type t)) no_type))
    by true u = refl
    by false true = ap (to (plain_type t)) (plain-input t p h)
    by false false = refl

module _ (p : List ℕ) (t addresses ports end : ℕ) (found : Places p t addresses ports end) where
  -- the part of the packet between the places is the input of its type
  part-input : take (end - addresses) (drop addresses p) ≡ input_of t p
  unfolding input_of
  part-input =
      let size : end - addresses ≡ input_size t = omega (arith, found.begins, found.ends) in
      rw (size, found.begins) refl

  -- so it is as long as that input
  pub part_length : length (take (end - addresses) (drop addresses p)) ≡ input_size t
  part_length = ap length part-input ∙ input-length p t (rw found.ends at found.inside)

  -- and the choice for that part is the choice for the packet
  pub steered-part : (flags : ℕ) (key table : List ℕ) (x : Choice)
      → x ≡ steered_ip flags key table t (take (end - addresses) (drop addresses p)) → x ≡ steered flags key table p
  steered-part flags key table x e =
      e ∙ ap (steered_ip flags key table t) part-input ∙ steered-ip flags key table p t found.kind found.known
