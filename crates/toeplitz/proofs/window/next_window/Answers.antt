-- `toeplitz::window::next_window` meets its contract: the law of a window with the octet of the next key bit drawn in.
use Rattle.octets.specs.Prelude.{ap₂, ◌∙◌, ℕ, ◌+◌, ◌-◌, ◌*◌, ◌/◌, ◌%◌, ◌^◌}
use lib.Bits.{bit_or}
use Rattle.toeplitz.proofs.Windows.{window-drawn}
use Rattle.toeplitz.proofs.window.next_window.Goals as goal

pub returns : goal.returns
returns c =
    let key = c.args.key.now in
    let i = c.args.i in
    ap₂ (λ (w n : ℕ). bit_or (w % 2147483648 * 2) (n / 2 ^ (7 - i % 8))) c.requires.2 c.from.ensures
    ∙ window-drawn key i (c.type_inv.key (i / 8 + 4)).fits
