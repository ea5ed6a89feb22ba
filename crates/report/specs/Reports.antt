-- The report on a settings file and a capture.
use Rattle.std.specs.Prelude.{◌&&◌, Result, Ok, Err}
use Rattle.octets.specs.Prelude.{List, cond, ℕ, length, take, leb}
use Rattle.octets.specs.Outcome.{Outcome, value, refused, and_then}
use Rattle.messages.specs.Settings.{Settings}
use Rattle.capture.specs.Header.{header_wrong, header_outcome}
use Rattle.capture.specs.Records.{record_wrong, records_outcome}
use Rattle.capture.specs.declared.Link.{Link}
use Rattle.settings_file.specs.Loading.{settings_refusal_number, settings_outcome}
use Rattle.report.specs.Counting.{Counted, counted_over}
use Rattle.report.specs.declared.Counts.{Counts}
use Rattle.report.specs.declared.ReportRefusal.{ReportRefusal}
use Rattle.report.specs.declared.ReportRefusal.TheVariants.{FileTooLong, Settings as SettingsRefused, Header, Record}

-- refusal 23: either file above 65,536 octets
abbrev pub file_too_long : ℕ
file_too_long = 23

abbrev pub max_file : ℕ
max_file = 65536

-- the records of a capture counted: refusal 14 for its header, then 15 for a record; nothing is counted of a capture with
-- a bad record
abbrev pub report_over : Settings → Link → List ℕ → Outcome Counted
report_over s link capture = and_then (records_outcome capture) (λ (rs : List (List ℕ)). value (counted_over s link rs))

abbrev pub report_under : Settings → List ℕ → Outcome Counted
report_under s capture = and_then (header_outcome capture) (λ (link : Link). report_over s link capture)

-- the report: refusals in the order 23, 6, 22, 14, 15
unfoldable pub report_on : List ℕ → List ℕ → Outcome Counted
report_on settings capture =
    cond (leb (length settings) max_file && leb (length capture) max_file)
    (and_then (settings_outcome settings) (λ (s : Settings). report_under s capture)) (refused file_too_long)

-- the number that each refusal stands for
abbrev pub report_refusal_number : ReportRefusal → ℕ
report_refusal_number FileTooLong = file_too_long
report_refusal_number (SettingsRefused e) = settings_refusal_number e
report_refusal_number (Header e) = header_wrong
report_refusal_number (Record e) = record_wrong

-- what counts stand for: the tallies of the queues in operation; and what an answer says
abbrev pub counted_of : Counts → Counted
counted_of c = record { queues = take c.count c.queues; unhashed = c.unhashed; total = c.total }

abbrev pub report_of : Result Counts ReportRefusal → Outcome Counted
report_of (Ok counts) = value (counted_of counts)
report_of (Err e) = refused (report_refusal_number e)
