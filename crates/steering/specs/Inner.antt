-- What the inner functions promise: no part of the public promise.
use Rattle.std.specs.Prelude.{◌≡◌, ◌+◌, ◌≤◌}
use Rattle.octets.specs.Prelude.{List, cond, ℕ, length, take}
use Rattle.toeplitz.specs.Hash.{published_hash}
use Rattle.toeplitz.specs.TwoWay.{last_type, address_size, input_size}
use Rattle.steering.specs.Steering.{is_set, plain_type, Choice, unhashed, hashed_to}

-- octets of the two addresses, which are the input of the plain type beside type t
abbrev pub plain_size : ℕ → ℕ
plain_size t = address_size t + address_size t

-- an input of type t, and how many of its octets are the plain type's
pub record OwnInput (t : ℕ) (input : List ℕ) (plain : ℕ) : Type 0 where
  pub known : t ≤ last_type
  pub size : length input ≡ input_size t
  pub addresses : plain ≡ plain_size t

-- the choice for a packet whose own type is t, with the input of that type
unfoldable pub steered_ip : ℕ → List ℕ → List ℕ → ℕ → List ℕ → Choice
steered_ip flags key table t input =
    cond (is_set flags t) (hashed_to t (published_hash key input) table)
    (cond (is_set flags (plain_type t)) (hashed_to (plain_type t) (published_hash key (take (plain_size t) input)) table) (unhashed 0))
