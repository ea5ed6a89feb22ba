-- Fragments of a datagram: how the field of two octets tells them, and what readers ask of their kind.
use Rattle.octets.specs.Prelude.{◌≡◌, refl, sym, ap, ◌∙◌, ◌↔◌, List, ◌++◌, Bool, true, false, cond, not, ◌||◌, false≢true, ℕ, ◌+◌, ◌*◌, ◌/◌, ◌%◌, ◌^◌}
use Rattle.octets.specs.Prelude.{◌≤◌, ◌<◌, arith, bit_and, length, get_or, take, drop, set, length-set, take-add, drop-drop, get_or-set_same}
use Rattle.octets.specs.Prelude.{get_or-set_other, eqb, leb, eqb-true, eqb-false, leb-true, leb-false, not-true, eq-eqb, ne_eqb}
use mathlib.Core.Bool.{and-false}
use lib.Bits.{and_mask}
use Rattle.octets.proofs.Truth.{both_true}
use Rattle.packet.specs.Packets.{hash_type, is_ipv4, is_tcp, fragment_field, more_fragments, fragment_offset, is_fragment, is_ipv4_tcp, kind_of}
use Rattle.packet.specs.Packets.{input_of, ipv4_source, ipv4_destination}
use Rattle.packet.proofs.Theorems.{ipv4-long}

module _ (p : List ℕ) where
  more-one-bit : more_fragments p < 2
  unfolding more_fragments
  more-one-bit = omega arith

  -- more-fragments bit and offset together are the low fourteen bits of the field
  fourteen-bits : fragment_field p % 16384 ≡ more_fragments p * 8192 + fragment_offset p
  unfolding more_fragments fragment_offset
  fourteen-bits = omega arith

  -- what holds of both answers, each where the fourteen bits say so, holds of the test
  by-fragment : (P : Bool → Type 0) → ((more_fragments p * 8192 + fragment_offset p ≡ 0 → ⊥) → P true)
      → (more_fragments p ≡ 0 → fragment_offset p ≡ 0 → P false) → P (is_fragment p)
  unfolding is_fragment
  by-fragment P some none = by (eqb (more_fragments p) 1) (leb 1 (fragment_offset p)) refl refl
    where
      by : (s t : Bool) → eqb (more_fragments p) 1 ≡ s → leb 1 (fragment_offset p) ≡ t → P (s || t)
      by true t e f = let one : more_fragments p ≡ 1 = eqb-true _ _ e in some (λ q. omega arith)
      by false true e f = let later : 1 ≤ fragment_offset p = leb-true _ _ f in some (λ q. omega arith)
      by false false e f =
          let clear : more_fragments p ≡ 1 → ⊥ = eqb-false _ _ e in
          let first : fragment_offset p < 1 = leb-false _ _ f in
          none (omega (arith, more-one-bit, clear)) (omega arith)

  -- so the field under a mask of fourteen ones tells a fragment
  pub fragment-told : not (eqb (bit_and (fragment_field p) 16383) 0) ≡ is_fragment p
  fragment-told =
      let bits = more_fragments p * 8192 + fragment_offset p in
      rw (and_mask (fragment_field p) 14, fourteen-bits)
      (by-fragment (λ (b : Bool). not (eqb bits 0) ≡ b)
      (λ some. ap not (ne_eqb bits 0 some))
      (λ more offset. ap not (eq-eqb bits 0 (omega arith))))

  -- a packet is no fragment exactly if more-fragments bit and offset are zero
  pub whole-exactly : (is_fragment p ≡ false) ↔ ((more_fragments p ≡ 0) × (fragment_offset p ≡ 0))
  whole-exactly =
      by-fragment (λ (b : Bool). (b ≡ false) ↔ ((more_fragments p ≡ 0) × (fragment_offset p ≡ 0)))
      (λ some. (λ e. absurd (false≢true (sym e)), λ zero. absurd (some (omega (arith, zero.0, zero.1)))))
      (λ more offset. (λ e. (more, offset), λ zero. refl))

  -- the kind of an IPv4 packet is told by the test for TCP
  ipv4-kind : is_ipv4 p ≡ true → kind_of p ≡ hash_type (cond (is_ipv4_tcp p) 1 0)
  unfolding kind_of
  ipv4-kind four = rw four refl

  -- an IPv4 packet is TCP exactly if octet 9 is 6, there are 24 octets or more, and more-fragments bit and offset are zero
  pub ipv4-tcp-exactly : is_ipv4 p ≡ true
      → (kind_of p ≡ hash_type 1) ↔ ((is_tcp 9 24 p ≡ true) × (more_fragments p ≡ 0) × (fragment_offset p ≡ 0))
  unfolding is_ipv4_tcp
  ipv4-tcp-exactly four = rw (ipv4-kind four) (to, from)
    where
      one : (b : Bool) → (hash_type (cond b 1 0) ≡ hash_type 1) ↔ (b ≡ true)
      one true = (λ e. refl, λ e. refl)
      one false = (λ e. let z : ◌≡◌ {A = ℕ} 0 1 = cc in absurd (omega arith), λ e. absurd (false≢true e))

      to : hash_type (cond (is_ipv4_tcp p) 1 0) ≡ hash_type 1 → (is_tcp 9 24 p ≡ true) × (more_fragments p ≡ 0) × (fragment_offset p ≡ 0)
      to e =
          let parts = (both_true (is_tcp 9 24 p) (not (is_fragment p))).0 ((one (is_ipv4_tcp p)).0 e) in
          let zero = whole-exactly.0 (not-true (is_fragment p) parts.1) in
          (parts.0, zero.0, zero.1)

      from : (is_tcp 9 24 p ≡ true) × (more_fragments p ≡ 0) × (fragment_offset p ≡ 0) → hash_type (cond (is_ipv4_tcp p) 1 0) ≡ hash_type 1
      from x = (one (is_ipv4_tcp p)).1 ((both_true (is_tcp 9 24 p) (not (is_fragment p))).1 (x.0, ap not (whole-exactly.1 (x.1, x.2))))

  -- a fragment is plain IPv4
  pub fragment-plain : is_ipv4 p ≡ true → is_fragment p ≡ true → kind_of p ≡ hash_type 0
  unfolding is_ipv4_tcp
  fragment-plain four fragment = ipv4-kind four ∙ rw (fragment, and-false (is_tcp 9 24 p)) refl

  -- the addresses of an IPv4 packet are its input of the plain type
  pub addresses-input : input_of 0 p ≡ ipv4_source p ++ ipv4_destination p
  unfolding input_of
  addresses-input = take-add 4 4 (drop 12 p) ∙ ap (λ (xs : List ℕ). ipv4_source p ++ take 4 xs) (drop-drop 4 12 p)

-- a packet with another octet 6 whose low six bits are the same
module _ (p : List ℕ) (octet : ℕ) (four : is_ipv4 p ≡ true) (same : octet % 64 ≡ get_or p 6 0 % 64) where
  beside : (j : ℕ) → (j ≡ 6 → ⊥) → get_or (set p 6 octet) j 0 ≡ get_or p j 0
  beside j other = get_or-set_other p 6 j octet 0 other

  there : get_or (set p 6 octet) 6 0 ≡ octet
  there = let long : 20 ≤ length p = ipv4-long p four in get_or-set_same p 6 octet 0 (omega arith)

  ipv4-same : is_ipv4 (set p 6 octet) ≡ true
  unfolding is_ipv4
  ipv4-same = rw (length-set, beside 0 (λ e. omega arith)) four

  tcp-same : is_tcp 9 24 (set p 6 octet) ≡ is_tcp 9 24 p
  unfolding is_tcp
  tcp-same = rw (length-set, beside 9 (λ e. omega arith)) refl

  fragment-same : is_fragment (set p 6 octet) ≡ is_fragment p
  unfolding is_fragment more_fragments fragment_offset fragment_field
  fragment-same =
      let other = octet * 256 + get_or p 7 0 in
      let field = get_or p 6 0 * 256 + get_or p 7 0 in
      let more : other / 2 ^ 13 % 2 ≡ field / 2 ^ 13 % 2 = omega (arith, same) in
      let offset : other % 2 ^ 13 ≡ field % 2 ^ 13 = omega (arith, same) in
      rw (there, beside 7 (λ e. omega arith), more, offset) refl

  -- the don't-fragment bit and the reserved bit play no part: with other ones an IPv4 packet is of the same kind
  pub top-bits-free : kind_of (set p 6 octet) ≡ kind_of p
  unfolding is_ipv4_tcp
  top-bits-free = ipv4-kind (set p 6 octet) ipv4-same ∙ rw (tcp-same, fragment-same) (sym (ipv4-kind p four))
