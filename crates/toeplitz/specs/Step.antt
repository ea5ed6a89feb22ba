-- The step of the window: how one window is made of the one before it and the next key bit.
use Rattle.std.specs.Prelude.{◌+◌, ◌*◌, ◌%◌}
use Rattle.octets.specs.Prelude.{List, ℕ, zero, suc, get_or}
use Rattle.toeplitz.specs.Hash.{bit_at}

-- the step: the top bit of the window gone, and the next key bit drawn in below the others
abbrev pub stepped : ℕ → ℕ → ℕ
stepped window bit = window % 2147483648 * 2 + bit

-- the four octets from octet a on, as a number whose top octet is the first
abbrev pub four_octets : List ℕ → ℕ → ℕ
four_octets xs a = ((get_or xs a 0 * 256 + get_or xs (a + 1) 0) * 256 + get_or xs (a + 2) 0) * 256 + get_or xs (a + 3) 0

-- the window after i steps from the first four key octets, each with the next key bit
unfoldable pub window_after : List ℕ → ℕ → ℕ
window_after key zero = four_octets key 0
window_after key (suc i) = stepped (window_after key i) (bit_at key (i + 32))
