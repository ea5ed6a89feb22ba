-- The refusals of a report in their order.
use Rattle.octets.specs.Prelude.{◌≡◌, refl, List, ℕ, ◌≤◌, ◌<◌, length, le-leb, lt-leb}
use Rattle.octets.specs.Outcome.{value, refused}
use Rattle.messages.specs.Settings.{Settings}
use Rattle.capture.specs.Header.{header_outcome}
use Rattle.capture.specs.Records.{record_wrong, records_outcome}
use Rattle.capture.specs.declared.Link.{Link}
use Rattle.settings_file.specs.Loading.{settings_outcome}
use Rattle.report.specs.Counting.{counted_over}
use Rattle.report.specs.Reports.{file_too_long, max_file, report_over, report_under, report_on}

-- a file that is too long
pub long-settings : (file capture : List ℕ) → max_file < length file → refused file_too_long ≡ report_on file capture
unfolding report_on
long-settings file capture h = rw (lt-leb (length file) max_file h) refl

pub long-capture : (file capture : List ℕ) → length file ≤ max_file → max_file < length capture → refused file_too_long ≡ report_on file capture
unfolding report_on
long-capture file capture l h = rw (le-leb (length file) max_file l, lt-leb (length capture) max_file h) refl

-- then the settings
module _ (file capture : List ℕ) (l : length file ≤ max_file) (k : length capture ≤ max_file) where
  pub settings-refused : (n : ℕ) → refused n ≡ settings_outcome file → refused n ≡ report_on file capture
  unfolding report_on
  settings-refused n e = rw (le-leb (length file) max_file l, le-leb (length capture) max_file k, ← e) refl

  pub settings-loaded : (s : Settings) → value s ≡ settings_outcome file → report_under s capture ≡ report_on file capture
  unfolding report_on
  settings-loaded s e = rw (le-leb (length file) max_file l, le-leb (length capture) max_file k, ← e) refl

-- then the header
pub header_refused : (s : Settings) (capture : List ℕ) (n : ℕ) → refused n ≡ header_outcome capture → refused n ≡ report_under s capture
header_refused s capture n e = rw (← e) refl

pub header_read : (s : Settings) (capture : List ℕ) (link : Link) → value link ≡ header_outcome capture
    → report_over s link capture ≡ report_under s capture
header_read s capture link e = rw (← e) refl

-- then the records
pub bad-records : (s : Settings) (link : Link) (capture : List ℕ) → records_outcome capture ≡ refused record_wrong
    → refused record_wrong ≡ report_over s link capture
bad-records s link capture e = rw e refl

pub good-records : (s : Settings) (link : Link) (capture : List ℕ) (rs : List (List ℕ)) → records_outcome capture ≡ value rs
    → value (counted_over s link rs) ≡ report_over s link capture
good-records s link capture rs e = rw e refl
