-- The refusal that only the guest's end has, by its number.
use Rattle.octets.specs.Prelude.{ℕ}

-- a request begun while one is outstanding
abbrev pub request_outstanding : ℕ
request_outstanding = 13
