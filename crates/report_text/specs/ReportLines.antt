-- The lines of a report.
use Rattle.std.specs.Prelude.{◌∷◌, ◌++◌, ◌+◌, ◌*◌}
use Rattle.octets.specs.Prelude.{List, [], ℕ, suc}
use Rattle.octets.specs.Outcome.{Outcome, value, refused}
use Rattle.text.specs.Ascii.{ascii, decimal}
use Rattle.text.specs.Text.{longest_line}
use Rattle.messages.specs.Settings.{max_queues}
use Rattle.text.specs.Lines.{number_line, refusal_line}
use Rattle.report.specs.Counting.{Counted}
use Rattle.report.specs.declared.Tally.{Tally}
use Rattle.report.specs.Reports.{report_on}

-- the most octets of a line: numbers of at most 20 digits
abbrev pub longest_tally : ℕ
longest_tally = 42

abbrev pub longest_queue : ℕ
longest_queue = 69

-- and of a report: the lines of 64 queues, the line of a number, a word of six octets and a tally
abbrev pub longest_report : ℕ
longest_report = max_queues * longest_queue + longest_line + 6 + longest_tally

-- packets, captured octets and the line's end
abbrev pub tally_line : Tally → List ℕ
tally_line t = decimal t.packets ++ (ascii " " ++ (decimal t.octets ++ ascii "\n"))

-- `queue K P O`, and a line for each queue rising, from queue k on
abbrev pub queue_line : ℕ → Tally → List ℕ
queue_line k t = ascii "queue " ++ (decimal k ++ (ascii " " ++ tally_line t))

unfoldable pub queue_lines : ℕ → List Tally → List ℕ
queue_lines k [] = []
queue_lines k (t ∷ ts) = queue_line k t ++ queue_lines (suc k) ts

-- then `unhashed P` and `total P O`
unfoldable pub counted_lines : Counted → List ℕ
counted_lines c =
    queue_lines 0 c.queues ++ (number_line (ascii "unhashed ") c.unhashed ++ (ascii "total " ++ tally_line c.total))

-- `refused` and the number alone, or the lines
abbrev pub report_lines : Outcome Counted → List ℕ
report_lines (value c) = counted_lines c
report_lines (refused n) = refusal_line n

-- what the program prints for the two files
abbrev pub report_text : List ℕ → List ℕ → List ℕ
report_text settings capture = report_lines (report_on settings capture)
