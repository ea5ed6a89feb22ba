-- The reverse of an input of a type is an input of the type, and its own reverse is the input again.
use Rattle.octets.specs.Prelude.{◌≡◌, ap, ◌∙◌, List, ℕ, ◌<◌, dec_lt, arith, length, get_or}
use lib.ListN.{get_or-eq_default}
use lib.Seq.{ext_get_or}
use Rattle.octets.specs.Numbers.{AreOctets}
use Rattle.toeplitz.specs.TwoWay.{size_of, address_size, port_size, IsInput, swapped, reverse_of}
use Rattle.toeplitz.proofs.Mirror.{place, mirror, mirror-lt, mirror-twice, length-swapped, get_d-swapped}

module _ (a p : ℕ) (xs : List ℕ) (e : length xs ≡ size_of a p) where
  octets-swapped : AreOctets xs → AreOctets (swapped a p xs)
  octets-swapped o i =
      elim (dec_lt i (size_of a p)) [
        | yes h ↦ rw (get_d-swapped a p xs e i (place a p i h)) (o (mirror a p i))
        | no n ↦ rw (get_or-eq_default (swapped a p xs) 0 {n = i} (omega (arith, length-swapped a p xs e))) (omega arith)
      ]

  swapped-twice : swapped a p (swapped a p xs) ≡ xs
  swapped-twice =
      let f = length-swapped a p xs e ∙ e in
      ext_get_or 0 (swapped a p (swapped a p xs)) xs (length-swapped a p (swapped a p xs) f ∙ length-swapped a p xs e)
      (λ i h.
      let l : i < size_of a p = omega (arith, length-swapped a p (swapped a p xs) f) in
      let k = place a p i l in
      get_d-swapped a p (swapped a p xs) f i k
      ∙ get_d-swapped a p xs e (mirror a p i) (place a p (mirror a p i) (mirror-lt a p i k))
      ∙ ap (λ (m : ℕ). get_or xs m 0) (mirror-twice a p i k))

module _ (t : ℕ) (xs : List ℕ) (q : IsInput t xs) where
  pub reverse-is-input : IsInput t (reverse_of t xs)
  reverse-is-input =
      record {
        size = length-swapped (address_size t) (port_size t) xs q.size ∙ q.size;
        octets = octets-swapped (address_size t) (port_size t) xs q.size q.octets;
      }

  pub reverse_twice : reverse_of t (reverse_of t xs) ≡ xs
  reverse_twice = swapped-twice (address_size t) (port_size t) xs q.size
