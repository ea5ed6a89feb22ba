-- What a call answers, by document 01's numbers.
use Rattle.std.specs.Prelude.{Result, Ok, Err}
use Rattle.octets.specs.Prelude.{ℕ}

-- a value, or the number of the refusal
pub data Outcome (A : Type 0) : Type 0 where
  value : A → Outcome A
  refused : ℕ → Outcome A

-- what a Result says, by the number that each error stands for
abbrev pub outcome_of : {A E : Type 0} → (E → ℕ) → Result A E → Outcome A
outcome_of number (Ok v) = value v
outcome_of number (Err e) = refused (number e)

-- where there is a value, what is made of it; else the same refusal
abbrev pub and_then : {A B : Type 0} → Outcome A → (A → Outcome B) → Outcome B
and_then (value x) f = f x
and_then (refused n) f = refused n

-- the value, or another where there is none
abbrev pub value_or : {A : Type 0} → A → Outcome A → A
value_or other (value x) = x
value_or other (refused n) = other

-- the number of a call that is not refused
abbrev pub done : ℕ
done = 0

-- the number that a call answers: document 01's of its refusal
abbrev pub number_of : {A : Type 0} → Outcome A → ℕ
number_of (value v) = done
number_of (refused k) = k

-- what a place holds after a call, by what a value puts there, which may be what it held before
abbrev pub placed : {A B : Type 0} → (A → B → B) → Outcome A → B → B
placed puts (value v) before = puts v before
placed puts (refused k) before = before

-- the value itself
abbrev pub itself : {A : Type 0} → A → A → A
itself v before = v
