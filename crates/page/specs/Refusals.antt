-- The refusals of a page, by document 01's numbers. Both ends give them, each by its own counts.
use Rattle.octets.specs.Prelude.{ℕ}
use Rattle.page.specs.declared.PageRefusal.{PageRefusal}
use Rattle.page.specs.declared.PageRefusal.TheVariants.{PageLength, RequestCount, ResponseCount}

-- the page is not 4,096 octets
abbrev pub page_wrong : ℕ
page_wrong = 3

-- req_prod less req_cons above 1,024, the one of the two own and the other read from the page
abbrev pub requests_wrong : ℕ
requests_wrong = 4

-- rsp_prod less rsp_cons above 1,024, alike
abbrev pub responses_wrong : ℕ
responses_wrong = 5

-- the number that each refusal stands for
abbrev pub page_refusal_number : PageRefusal → ℕ
page_refusal_number PageLength = page_wrong
page_refusal_number RequestCount = requests_wrong
page_refusal_number ResponseCount = responses_wrong
