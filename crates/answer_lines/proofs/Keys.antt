-- Where fewer than 40 octets are read, all are the key and none the input.
use Rattle.octets.specs.Prelude.{◌≡◌, sym, ap, ◌∙◌, List, ℕ, min, dec_lt, arith, length, take, drop}
use Rattle.octets.specs.Prelude.{drop_of_length-le, take_all}
use Rattle.toeplitz.specs.Hash.{key_length}

module _ (octets : List ℕ) (split : ℕ) (e : split ≡ min (length octets) key_length) where
  pub key_part : take split octets ≡ take key_length octets
  key_part =
      elim (dec_lt (length octets) key_length) [
        | yes h ↦ take_all split octets (omega arith) ∙ sym (take_all key_length octets (omega arith))
        | no n ↦ let whole : split ≡ key_length = omega arith in ap (λ (k : ℕ). take k octets) whole
      ]

  pub input_part : drop split octets ≡ drop key_length octets
  input_part =
      elim (dec_lt (length octets) key_length) [
        | yes h ↦ drop_of_length-le octets {i = split} (omega arith) ∙ sym (drop_of_length-le octets {i = key_length} (omega arith))
        | no n ↦ let whole : split ≡ key_length = omega arith in ap (λ (k : ℕ). drop k octets) whole
      ]
