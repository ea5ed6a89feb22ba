-- The cases of a file, one after the other. A case:
--   0 kind (1)   1 length of its body (2)   3 body
use Rattle.std.specs.Prelude.{◌≡◌, ◌+◌, ◌<◌, Option, None, Some}
use Rattle.octets.specs.Prelude.{List, [], cond, ℕ, length, take, drop, leb, get_or}
use Rattle.octets.specs.Numbers.{number_at}
use Rattle.cases.specs.declared.Case.{Case}
use Rattle.cases.specs.declared.Cases.{Cases}

-- octets before a body, how many the body has, and where the case ends (octets past the end count as 0)
abbrev pub head : ℕ
head = 3

abbrev pub body_length : List ℕ → ℕ
body_length xs = number_at 2 xs 1

abbrev pub case_end : List ℕ → ℕ
case_end xs = head + body_length xs

-- the kind of the case that octets begin with; one cut short by the end of the file has none, which is 255
abbrev pub no_kind : ℕ
no_kind = 255

abbrev pub kind_in : List ℕ → ℕ
kind_in xs = cond (leb (case_end xs) (length xs)) (get_or xs 0 0) no_kind

-- its body, and what is behind it; of a case cut short there is neither
abbrev pub body_in : List ℕ → List ℕ
body_in xs = cond (leb (case_end xs) (length xs)) (take (body_length xs) (drop head xs)) []

abbrev pub behind_case : List ℕ → List ℕ
behind_case xs = cond (leb (case_end xs) (length xs)) (drop (case_end xs) xs) []

abbrev pub octets_left : Cases → ℕ
octets_left s = length s.rest.now

-- no case where no octet is left; else the one that the octets left begin with. Each takes octets, so that the run ends
abbrev pub Takes : Cases → Option Case → Cases → Type 0
Takes s None t = (octets_left s ≡ 0) × (t ≡ s)
Takes s (Some case) t =
    (case.kind ≡ kind_in s.rest.now) × (case.body.now ≡ body_in s.rest.now) × (t.rest.now ≡ behind_case s.rest.now) × (octets_left t < octets_left s)
