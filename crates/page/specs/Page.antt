-- The shared page: its counts, and the octets of its areas by their counts.
use Rattle.std.specs.Prelude.{◌∷◌, ◌+◌, ◌-◌, ◌%◌, ◌^◌}
use Rattle.octets.specs.Prelude.{List, [], ℕ, zero, suc, get_or, set, sets}
use Rattle.std.specs.Prelude.{map}
use Rattle.octets.specs.Numbers.{number_at, octets_of}

-- octets of the page, and of each area
abbrev pub page_size : ℕ
page_size = 4096

abbrev pub area_size : ℕ
area_size = 1024

-- where the counts stand, four octets each, and the areas
abbrev pub req_cons_at : ℕ
req_cons_at = 0

abbrev pub req_prod_at : ℕ
req_prod_at = 4

abbrev pub rsp_cons_at : ℕ
rsp_cons_at = 8

abbrev pub rsp_prod_at : ℕ
rsp_prod_at = 12

abbrev pub requests_at : ℕ
requests_at = 16

abbrev pub responses_at : ℕ
responses_at = 1040

-- the count that stands at a place
abbrev pub count_in : List ℕ → ℕ → ℕ
count_in page at = number_at 4 page at

-- counts run over from 4,294,967,295 to 0: a count with n added, and one count less another
abbrev pub advanced : ℕ → ℕ → ℕ
advanced c n = (c + n) % 2 ^ 32

abbrev pub less : ℕ → ℕ → ℕ
less a b = (a + (2 ^ 32 - b)) % 2 ^ 32

-- the page with a count written to its place; with both counts of the host, and with both of the guest
abbrev pub with_count : List ℕ → ℕ → ℕ → List ℕ
with_count page at c = sets page at (octets_of 4 c)

abbrev pub counted : List ℕ → ℕ → ℕ → List ℕ
counted page req_cons rsp_prod = with_count (with_count page req_cons_at req_cons) rsp_prod_at rsp_prod

abbrev pub counted_by_guest : List ℕ → ℕ → ℕ → List ℕ
counted_by_guest page rsp_cons req_prod = with_count (with_count page rsp_cons_at rsp_cons) req_prod_at req_prod

-- where the n octets from count c on stand in an area: that with count c at c modulo 1,024. A count may run past 2 ^ 32
-- here, since 1,024 divides it
unfoldable pub offsets : ℕ → ℕ → List ℕ
offsets c zero = []
offsets c (suc n) = c % area_size ∷ offsets (c + 1) n

-- the n octets from count c on of the area that stands at `area`
unfoldable pub octets_in : ℕ → List ℕ → ℕ → ℕ → List ℕ
octets_in area page c n = map (λ (o : ℕ). get_or page (area + o) 0) (offsets c n)

-- the page with octets put into that area from count c on
unfoldable pub put : ℕ → List ℕ → ℕ → List ℕ → List ℕ
put area page c [] = page
put area page c (x ∷ xs) = put area (set page (area + c % area_size) x) (c + 1) xs
