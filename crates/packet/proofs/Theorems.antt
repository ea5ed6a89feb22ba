-- What readers and callers ask of the kind of a packet: each kind has the octets that its hash input takes, so the
-- input is a part of the packet, as long as document 01 says.
use Rattle.octets.specs.Prelude.{◌≡◌, refl, sym, ap, ◌∙◌, List, Bool, true, false, cond, ℕ, suc, ◌+◌, ◌≤◌, arith, length, drop}
use Rattle.octets.specs.Prelude.{length-drop, length-take-le, leb-true}
use Rattle.octets.proofs.Truth.{both_true}
use Rattle.toeplitz.specs.TwoWay.{last_type, input_size}
use Rattle.packet.specs.Packets.{PacketType, no_type, hash_type, is_ipv4, is_ipv6, is_tcp, is_ipv4_tcp, kind_of, input_start, input_of}
use Rattle.packet.specs.Packets.{Look, none, typed, look_of}
use Rattle.packet.specs.declared.IpPacket.{IpPacket}
use Rattle.toeplitz.specs.declared.HashType.{HashType}
use Rattle.toeplitz.proofs.Types.{type-named, type-named-back}
use Rattle.std.specs.Prelude.{Option, None, Some}

module _ (p : List ℕ) where
  pub ipv4-long : is_ipv4 p ≡ true → 20 ≤ length p
  unfolding is_ipv4
  ipv4-long e = leb-true _ _ ((both_true _ _).0 e).0

  ipv6-long : is_ipv6 p ≡ true → 40 ≤ length p
  unfolding is_ipv6
  ipv6-long e = leb-true _ _ ((both_true _ _).0 e).0

  pub tcp-long : (at least : ℕ) → is_tcp at least p ≡ true → least ≤ length p
  unfolding is_tcp
  tcp-long at least e = leb-true _ _ ((both_true _ _).0 e).0

  ipv4-tcp-long : is_ipv4_tcp p ≡ true → 24 ≤ length p
  unfolding is_ipv4_tcp
  ipv4-tcp-long e = tcp-long 9 24 ((both_true _ _).0 e).0

  -- what holds of no type, and of each type where the packet is long enough for it, holds of the kind
  module _ (P : PacketType → Type 0) where
    by-tcp : (t : ℕ) (b : Bool) → P (hash_type t) → (b ≡ true → P (hash_type (suc t))) → P (hash_type (cond b (suc t) t))
    by-tcp t true plain tcp = tcp refl
    by-tcp t false plain tcp = plain

    by-version : (b c : Bool) (s t : ℕ) → (b ≡ true → P (hash_type s)) → (c ≡ true → P (hash_type t)) → P no_type
        → P (cond b (hash_type s) (cond c (hash_type t) no_type))
    by-version true c s t four six neither = four refl
    by-version false true s t four six neither = six refl
    by-version false false s t four six neither = neither

    pub kind-cases : P no_type → (20 ≤ length p → P (hash_type 0)) → (24 ≤ length p → P (hash_type 1))
        → (40 ≤ length p → P (hash_type 2)) → (44 ≤ length p → P (hash_type 3)) → P (kind_of p)
    unfolding kind_of
    kind-cases neither zeroth first second third =
        by-version (is_ipv4 p) (is_ipv6 p) _ _
        (λ e. by-tcp 0 (is_ipv4_tcp p) (zeroth (ipv4-long e)) (λ q. first (ipv4-tcp-long q)))
        (λ e. by-tcp 2 (is_tcp 6 44 p) (second (ipv6-long e)) (λ q. third (tcp-long 6 44 q)))
        neither

  -- a packet has all octets of the input of its own type, which is one of the four
  pub input-inside : (t : ℕ) → kind_of p ≡ hash_type t → (t ≤ last_type) × (input_start t + input_size t ≤ length p)
  input-inside t e =
      kind-cases Inside no-type (of-type 0 (omega arith)) (of-type 1 (omega arith)) (of-type 2 (omega arith)) (of-type 3 (omega arith)) t e
    where
      Inside : PacketType → Type 0
      Inside k = (u : ℕ) → k ≡ hash_type u → (u ≤ last_type) × (input_start u + input_size u ≤ length p)

      no-type : Inside no_type
      no-type u q = let z : ◌≡◌ {A = ℕ} 0 1 = cc in absurd (omega arith)

      of-type : (n : ℕ) → n ≤ last_type → input_start n + input_size n ≤ length p → Inside (hash_type n)
      of-type n most h u q = let same : n ≡ u = cc in rw (← same) (most, h)

  -- so the input is as long as document 01 says: 8, 12, 32 or 36 octets
  pub input-length : (t : ℕ) → input_start t + input_size t ≤ length p → length (input_of t p) ≡ input_size t
  unfolding input_of
  input-length t h = length-take-le (input_size t) (drop (input_start t) p) (rw length-drop (omega arith))

-- the reading of an answer keeps answers apart, so the contract leaves no choice
found_of : Look → Option IpPacket
found_of none = None
found_of (typed t addresses ports end) = Some (record { hash_type = type-named t; addresses = addresses; ports = ports; end = end })

found_back : (r : Option IpPacket) → found_of (look_of r) ≡ r
unfolding found_of
found_back None = refl
found_back (Some p) =
    ap (λ (t : HashType). Some (record { hash_type = t; addresses = p.addresses; ports = p.ports; end = p.end })) (type-named-back p.hash_type)

pub found-determined : (r s : Option IpPacket) → look_of r ≡ look_of s → r ≡ s
found-determined r s e = sym (found_back r) ∙ ap found_of e ∙ found_back s
