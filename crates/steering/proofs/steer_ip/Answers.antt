-- `steering::steer_ip` meets its contract: the tests on the flags pick the type.
use Rattle.octets.specs.Prelude.{◌≡◌, sym, ap, ◌∙◌, ◌-◌, arith}
use Rattle.toeplitz.specs.TwoWay.{type_number}
use Rattle.steering.specs.Steering.{choice_of}
use Rattle.steering.specs.Inner.{plain_size}
use Rattle.steering.proofs.Choices.{steered-own, steered-plain, steered-none}
use Rattle.steering.proofs.steer_ip.Goals as goal

pub returns-then-is_set : goal.returns-then-is_set
returns-then-is_set c = c.hashed.ensures ∙ steered-own _ _ _ _ _ (sym c.is_set.ensures ∙ c.if-is_set.true)

pub returns-then-is_set-2 : goal.returns-then-is_set-2
returns-then-is_set-2 c =
    let size : c.args.plain_size - 0 ≡ plain_size (type_number c.args.hash_type) = omega (arith, c.requires.1.addresses) in
    rw (size, c.plain-plain.ensures) at c.hashed-then-is_set-2.ensures
    ∙ steered-plain _ _ _ _ _ (sym c.is_set.ensures ∙ c.if-is_set.false)
    (rw c.plain-plain.ensures at (sym c.is_set-2.ensures ∙ c.if-is_set-2.true))

pub returns : goal.returns
returns c =
    ap choice_of c.unhashed.ensures
    ∙ steered-none _ _ _ _ _ (sym c.is_set.ensures ∙ c.if-is_set.false)
    (rw c.plain-plain.ensures at (sym c.is_set-2.ensures ∙ c.if-is_set-2.false))
