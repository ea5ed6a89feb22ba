-- `directions::two_way` meets its contract: the tests and the two searches pick the case of `two_way_outcome`.
use Rattle.std.specs.Prelude.{Option, Result, Ok, Err, IsErrAnd}
use Rattle.octets.specs.Prelude.{◌≡◌, refl, sym, ap, ◌∙◌, List, ℕ, ◌+◌, ◌*◌, ◌≤◌, arith, length, eq-eqb, le-leb, lt-leb}
use Rattle.octets.specs.Outcome.{value}
use Rattle.toeplitz.specs.Hash.{key_length}
use Rattle.toeplitz.specs.TwoWay.{last_type, Verdict, differ_at, verdict, two_way_outcome, two_way_outcome_of, type_of}
use Rattle.toeplitz.specs.declared.TwoWayRefusal.{TwoWayRefusal}
use Rattle.toeplitz.proofs.Types.{type-known, type-unknown}
use Rattle.directions.proofs.Searches.{in-addresses, in-ports, nowhere}
use Rattle.directions.proofs.two_way.Goals as goal

-- a key and a type that are good: the answer is the verdict
answered : (key : List ℕ) (t u : ℕ) (v : Verdict) → length key ≡ key_length → (u ≡ t) × (t ≤ last_type) → verdict key u ≡ v
    → value v ≡ two_way_outcome key t
answered key t u v k l e = simp (eq-eqb _ _ k, le-leb _ _ l.1) (ap value (sym (rw l.0 at e)))

-- a type that is none of the four is refused
unknown : (key : List ℕ) (t : ℕ) (r : Result (Option ℕ) TwoWayRefusal) (e : TwoWayRefusal) → length key ≡ key_length → Err e ≡ type_of t
    → IsErrAnd r (λ f. f ≡ e) → two_way_outcome_of r ≡ two_way_outcome key t
unknown key t (Ok bit) e k h same = absurd same
unknown key t (Err f) e k h same =
    let none = type-unknown t e h in
    rw (same, none.0, eq-eqb _ _ k, lt-leb _ _ none.1) refl

pub returns-in_err-known : goal.returns-in_err-known
returns-in_err-known c = unknown _ _ _ _ (omega arith) c.in_err-known.ensures c.from_residual.ensures.1

pub returns : goal.returns
returns c =
    let address = c.address_size-address.ensures.0 in
    answered _ _ _ _ (omega arith) (type-known _ _ c.in_ok-known.ensures)
    (nowhere _ _ (rw address at c.in_default.ensures) (rw (address, c.port_size-port.ensures.0) at c.in_default-first_difference.ensures))

pub returns-in-Some : goal.returns-in-Some
returns-in-Some c =
    answered _ _ _ _ (omega arith) (type-known _ _ c.in_ok-known.ensures)
    (in-addresses _ _ _ (rw c.address_size-address.ensures.0 at c.in-Some.ensures))

pub returns-in-Some-first_difference : goal.returns-in-Some-first_difference
returns-in-Some-first_difference c =
    let address = c.address_size-address.ensures.0 in
    ap (λ (x : ℕ). value (differ_at (x * 16 + c.in-Some-first_difference.bit))) address
    ∙ answered _ _ _ _ (omega arith) (type-known _ _ c.in_ok-known.ensures)
    (in-ports _ _ _ (rw address at c.in_default.ensures) (rw (address, c.port_size-port.ensures.0) at c.in-Some-first_difference.ensures))
