-- `toeplitz::window::octet_window` meets its contract: the law of a window at an octet's top bit.
use Rattle.octets.specs.Prelude.{sym, ◌∙◌}
use Rattle.toeplitz.proofs.Windows.{window-octets}
use Rattle.toeplitz.proofs.window.octet_window.Goals as goal

pub returns : goal.returns
returns c = c.four_octets.ensures ∙ sym (window-octets _ _ (λ i. (c.type_inv.key i).fits))
