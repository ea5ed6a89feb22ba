-- `steering::steer` meets its contract: the places found are those of the packet's own type, and stand inside the packet.
use Rattle.octets.specs.Prelude.{refl, ap, ◌∙◌, arith}
use Rattle.steering.specs.Steering.{choice_of}
use Rattle.steering.proofs.Choices.{steered-not-ip, places, part_length, steered-part}
use Rattle.steering.proofs.steer.Goals as goal

pub slice_bounds-steer_ip-count : goal.slice_bounds-steer_ip-count
slice_bounds-steer_ip-count c = let f = places _ _ c.in-Some.ensures in omega arith

pub slice_bounds-steer_ip-start : goal.slice_bounds-steer_ip-start
slice_bounds-steer_ip-start c = let f = places _ _ c.in-Some.ensures in omega arith

pub slice_bounds-steer_ip-end : goal.slice_bounds-steer_ip-end
slice_bounds-steer_ip-end c = let f = places _ _ c.in-Some.ensures in omega arith

pub overflow_sub-found : goal.overflow_sub-found
overflow_sub-found c = let f = places _ _ c.in-Some.ensures in omega arith

pub steer_ip-requires : goal.steer_ip-requires
steer_ip-requires c =
    let f = places _ _ c.in-Some.ensures in
    (c.requires, record { known = f.known; size = part_length _ _ _ _ _ f; addresses = omega (arith, f.begins, f.parted) })

pub returns-in-None : goal.returns-in-None
returns-in-None c = ap choice_of c.unhashed.ensures ∙ steered-not-ip _ _ _ _ _ c.in-None.ensures refl

pub returns-in-Some : goal.returns-in-Some
returns-in-Some c = let f = places _ _ c.in-Some.ensures in steered-part _ _ _ _ _ f _ _ _ _ c.steer_ip.ensures
