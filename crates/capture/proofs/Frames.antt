-- The IP packet in an Ethernet frame.
use Rattle.octets.specs.Prelude.{◌≡◌, refl, List, [], true, false, ℕ, ◌≤◌, length, drop, leb-true}
use Rattle.octets.proofs.Truth.{both_true}
use Rattle.capture.specs.Packets.{ethernet_header, holds_ip, ip_part}
use Rattle.capture.specs.declared.Link.TheVariants.{Ethernet}

module _ (frame : List ℕ) where
  pub frame-long : holds_ip frame ≡ true → ethernet_header ≤ length frame
  unfolding holds_ip
  frame-long e = leb-true _ _ ((both_true _ _).0 e).0

  pub frame-part : holds_ip frame ≡ true → drop ethernet_header frame ≡ ip_part Ethernet frame
  unfolding ip_part
  frame-part e = rw e refl

  pub frame-none : holds_ip frame ≡ false → [] ≡ ip_part Ethernet frame
  unfolding ip_part
  frame-none e = rw e refl
