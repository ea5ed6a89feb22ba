-- A text that grows: what it holds, and what it is to add to it.
use Rattle.std.specs.Prelude.{◌≡◌, ◌++◌}
use Rattle.octets.specs.Prelude.{List, ℕ}
use Rattle.text.specs.declared.Text.{Text}

-- the most octets that a text holds: 64 lines of a report's queues, at most 69 each, and two lines more
abbrev pub capacity : ℕ
capacity = 4608

-- the most octets of one line: a word of at most 9, a number of at most 20 digits, and the line's end
abbrev pub longest_line : ℕ
longest_line = 30

-- and with the name of a hash type before it, at most 9
abbrev pub longest_type_line : ℕ
longest_type_line = 39

-- r is t with xs behind it
abbrev pub Adds : (t : Text) (xs : List ℕ) (r : Text) → Type 0
Adds t xs r = r ≡ t ++ xs

-- a text of xs
abbrev pub Prints : (r : Text) (xs : List ℕ) → Type 0
Prints r xs = r ≡ xs
