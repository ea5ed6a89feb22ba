-- The worked lines as rows: each kind of line has a constructor, and `Holds` says what it claims of the definitions.
use Rattle.std.specs.Prelude.{◌≡◌, ◌∷◌, ◌++◌}
use Rattle.octets.specs.Prelude.{List, [], ℕ, zero, suc, replicate, set}
use Rattle.octets.specs.Outcome.{value}
use Rattle.toeplitz.specs.Hash.{hash_outcome}
use Rattle.toeplitz.specs.TwoWay.{Verdict, agree, differ_at, two_way_outcome}
use Rattle.page.specs.Page.{less, offsets}
use Rattle.steering.specs.Steering.{queue_of}

-- n octets that count up from x
unfoldable pub up_from : ℕ → ℕ → List ℕ
up_from x zero = []
up_from x (suc n) = x ∷ up_from (suc x) n

-- document 01's K: the key 00 01 02 .. 27
unfoldable pub counting_key : List ℕ
counting_key = up_from 0 40

-- the key with only octet 15 = 02, and the zero key
unfoldable pub sparse_key : List ℕ
sparse_key = set (replicate 40 0) 15 0x02

unfoldable pub zero_key : List ℕ
zero_key = replicate 40 0

pub data Line : Type 0 where
  -- the hash of an input under a key
  hash_is : List ℕ → List ℕ → ℕ → Line
  -- the queue of a hash under a mapping
  queue_is : List ℕ → ℕ → ℕ → Line
  -- from an own req_cons to a req_prod, the octets stand at these offsets of the area
  stand_at : ℕ → ℕ → List ℕ → Line
  -- the two-way answer of a key for a hash type
  two_way_is : List ℕ → ℕ → Verdict → Line

abbrev pub Holds : Line → Type 0
Holds (hash_is key input h) = hash_outcome key input ≡ value h
Holds (queue_is table hash queue) = queue_of table hash ≡ queue
Holds (stand_at req_cons req_prod places) = offsets req_cons (less req_prod req_cons) ≡ places
Holds (two_way_is key t v) = two_way_outcome key t ≡ value v

-- every line of a list holds
infixr 20 ◌and◌
pub data Each : List Line → Type 0 where
  none : Each []
  ◌and◌ : {l : Line} {ls : List Line} → Holds l → Each ls → Each (l ∷ ls)

abbrev pub lines : List Line
lines =
    hash_is counting_key [] 0
    ∷ hash_is counting_key (0x80 ∷ []) 0x00010203
    ∷ hash_is counting_key (0xC0 ∷ []) 0x00030605
    ∷ hash_is counting_key (0x00 ∷ 0x80 ∷ []) 0x01020304
    ∷ hash_is counting_key (0x80 ∷ 0x80 ∷ []) 0x01030107
    ∷ hash_is counting_key (replicate 35 0 ++ (0x01 ∷ [])) 0x92129313
    ∷ queue_is (2 ∷ 0 ∷ 3 ∷ 1 ∷ []) 0x01030107 1
    ∷ stand_at 4294967290 2 (1018 ∷ 1019 ∷ 1020 ∷ 1021 ∷ 1022 ∷ 1023 ∷ 0 ∷ 1 ∷ [])
    ∷ two_way_is sparse_key 0 agree
    ∷ two_way_is sparse_key 1 (differ_at 79)
    ∷ two_way_is sparse_key 2 (differ_at 95)
    ∷ two_way_is counting_key 0 (differ_at 0)
    ∷ two_way_is zero_key 0 agree
    ∷ two_way_is zero_key 1 agree
    ∷ two_way_is zero_key 2 agree
    ∷ two_way_is zero_key 3 agree
    ∷ []
