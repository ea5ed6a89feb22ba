-- What readers ask of a report, over the definitions alone. A contract says that the call answers what `report_on` says;
-- these say what that means.
use Rattle.octets.specs.Prelude.{◌≡◌, refl, sym, ap, ◌∙◌, List, [], ◌∷◌, ◌++◌, Bool, true, false, cond, ◌&&◌, false≢true, ℕ, ◌≤◌, arith, length}
use Rattle.octets.specs.Prelude.{take, replicate, length-append, length-drop, take-append-le, eqb, leb, leb-true, eq-eqb}
use Rattle.octets.specs.Outcome.{Outcome, value, refused, and_then}
use Rattle.octets.proofs.Truth.{both_true, by-test}
use Rattle.octets.proofs.Outcomes.{value_same, value-not-refused, test-value}
use Rattle.toeplitz.specs.Hash.{key_length}
use Rattle.messages.specs.Wire.{header_size, type_in, size_in, payload_in}
use Rattle.messages.specs.Settings.{Settings, max_queues, table_of, settings_at_setup, Good}
use Rattle.messages.specs.Requests.{carried_message}
use Rattle.messages.proofs.Theorems.{header-bounds-payload, good-stays-good, good-at-setup}
use Rattle.packet.specs.Packets.{PacketType, no_type, hash_type, is_ipv4, is_ipv6, kind_of}
use Rattle.steering.specs.Steering.{queue_in, type_used, chosen}
use Rattle.interface.specs.States.{HostState, queues_wrong, interface_at_setup, set_up_outcome}
use Rattle.backend.specs.Streams.{messages_in, rest_of, Messages, none, more, settings_after, Served}
use Rattle.interface.proofs.Queues.{good-queue}
use Rattle.backend.proofs.Falls.{messages-whole}
use Rattle.ring.specs.Reading.{message_length}
use Rattle.capture.specs.Header.{header_outcome}
use Rattle.capture.specs.Records.{records_outcome}
use Rattle.capture.specs.Packets.{holds_ip, ip_part}
use Rattle.capture.specs.declared.Link.{Link}
use Rattle.capture.specs.declared.Link.TheVariants.{Ethernet}
use Rattle.settings_file.specs.Loading.{settings_wrong, all_succeed, settings_from, settings_outcome}
use Rattle.report.specs.Counting.{tally_of, choice_for, is_unhashed, unhashed_of, on_queue, Counted, counted_over, sum_of}
use Rattle.report.specs.Reports.{file_too_long, max_file, report_over, report_under, report_on}
use Rattle.report.proofs.Tallies.{packets-add, those-one, those-none}
use Rattle.report.proofs.Sums.{tallies-sum}

-- what a report is made of: the settings of the file, and the link and all records of the capture
pub record MadeOf (file capture : List ℕ) (r : Counted) : Type 0 where
  pub settings : Settings
  pub link : Link
  pub records : List (List ℕ)
  pub loaded : settings_outcome file ≡ value settings
  pub header : header_outcome capture ≡ value link
  pub whole : records_outcome capture ≡ value records
  pub is : r ≡ counted_over settings link records

then-value : {A B : Type 0} (x : Outcome A) (f : A → Outcome B) (y : B) → and_then x f ≡ value y → (a : A) × (x ≡ value a) × (f a ≡ value y)
then-value (value a) f y e = (a, refl, e)
then-value (refused n) f y e = absurd (value-not-refused y n (sym e))

fits-value : {A : Type 0} (t : Bool) (x : Outcome A) (n : ℕ) (y : A) → cond t x (refused n) ≡ value y → x ≡ value y
fits-value true x n y e = e
fits-value false x n y e = absurd (value-not-refused y n (sym e))

pub report-made : (file capture : List ℕ) (r : Counted) → report_on file capture ≡ value r → MadeOf file capture r
unfolding report_on
report-made file capture r e =
    let under : Settings → Outcome Counted = λ (x : Settings). report_under x capture in
    let over : Settings → Link → Outcome Counted = λ (x : Settings) (link : Link). report_over x link capture in
    let fits = leb (length file) max_file && leb (length capture) max_file in
    let s = then-value (settings_outcome file) under r (fits-value fits (and_then (settings_outcome file) under) file_too_long r e) in
    let h = then-value (header_outcome capture) (over s.0) r s.2 in
    let w = then-value (records_outcome capture) (λ (rs : List (List ℕ)). value (counted_over s.0 h.0 rs)) r h.2 in
    record {
      settings = s.0;
      link = h.0;
      records = w.0;
      loaded = s.1;
      header = h.1;
      whole = w.1;
      is = sym (value_same (counted_over s.0 h.0 w.0) r w.2);
    }

-- good settings stay good, whatever whole message is carried out: octets behind its payload play no part
good-carried : (s : Settings) (m : List ℕ) → Good s → length m ≡ message_length m → Good (carried_message s m []).settings
good-carried s m good long =
    let p = payload_in m in
    let n : ℕ = size_in m in
    let zeros : List ℕ = replicate key_length 0 in
    let size : length p ≡ n = length-drop header_size m ∙ omega arith in
    let same : take n (p ++ zeros) ≡ take n (p ++ []) =
    take-append-le n p zeros (omega arith) ∙ sym (take-append-le n p [] (omega arith)) in
    rw (← header-bounds-payload s (type_in m) n (p ++ zeros) (p ++ []) same)
    (good-stays-good s (type_in m) n (p ++ zeros) good (simp length-append (omega arith)))

good-after : (s : Settings) (ms : List (List ℕ)) → Messages ms → Good s → Good (settings_after s ms)
unfolding settings_after
good-after s ms none good = good
good-after s ms (more m others long whole) good = good-after (carried_message s m []).settings others whole (good-carried s m good long)

-- the settings of a file are those of a host that was set up with its queue count and has read its messages
pub settings-as-host : (q : ℕ) (xs : List ℕ) (s : Settings) → settings_outcome (q ∷ xs) ≡ value s
    → (1 ≤ q) × (q ≤ max_queues) × (s ≡ settings_after (settings_at_setup q) (messages_in xs))
unfolding settings_outcome settings_from set_up_outcome
settings-as-host q xs s e =
    let made = then-value (set_up_outcome q) (λ (i : HostState). settings_from i.settings xs) s e in
    let up = test-value (leb 1 q && leb q max_queues) (interface_at_setup q) made.0 queues_wrong made.1 in
    let both = (both_true (leb 1 q) (leb q max_queues)).0 up.0 in
    let after = settings_after made.0.settings (messages_in xs) in
    let passes = eqb (length (rest_of xs)) 0 && all_succeed made.0.settings (messages_in xs) in
    let is = (test-value passes after s settings_wrong made.2).1 in
    (leb-true _ _ both.0, leb-true _ _ both.1, sym (ap (λ (i : HostState). settings_after i.settings (messages_in xs)) up.1 ∙ is))

pub settings-served : (q : ℕ) (xs : List ℕ) (s : Settings) (i : HostState) (written : List ℕ) → settings_outcome (q ∷ xs) ≡ value s
    → Served q i xs written → i.settings ≡ s
settings-served q xs s i written e served = served.settings ∙ sym (settings-as-host q xs s e).2

-- so they are good
pub settings-good : (file : List ℕ) (s : Settings) → settings_outcome file ≡ value s → Good s
unfolding settings_outcome
settings-good [] s e = absurd (value-not-refused s queues_wrong (sym e))
settings-good (q ∷ xs) s e =
    let host = settings-as-host q xs s e in
    rw host.2 (good-after (settings_at_setup q) (messages_in xs) (messages-whole xs) (good-at-setup q host.0 host.1))

module _ (file capture : List ℕ) (r : Counted) (e : report_on file capture ≡ value r) where
  abbrev made : MadeOf file capture r
  made = report-made file capture r e

  -- the queue lines add up to the total
  pub queue-lines-add-up : sum_of r.queues ≡ r.total
  unfolding counted_over
  queue-lines-add-up =
      let s = made.settings in
      let good = settings-good file s made.loaded in
      let queue : List ℕ → ℕ = λ (x : List ℕ). queue_in (choice_for s made.link x) in
      rw made.is (tallies-sum s.queues queue (λ x. good-queue s (ip_part made.link x) good) made.records)

  -- the total is the number of the records and their captured octets
  pub total-is-records : r.total ≡ tally_of made.records
  unfolding counted_over
  total-is-records = ap (λ (x : Counted). x.total) made.is

  -- nothing is reported of a capture with a bad header or a bad record
  pub no-bad-header : (n : ℕ) → header_outcome capture ≡ refused n → ⊥
  no-bad-header n bad = value-not-refused made.link n (sym made.header ∙ bad)

  pub no-bad-record : (n : ℕ) → records_outcome capture ≡ refused n → ⊥
  no-bad-record n bad = value-not-refused made.records n (sym made.whole ∙ bad)

-- a packet without a hash counts on queue 0, and so does a record that holds no IP packet
pub unhashed-on-queue-0 : (s : Settings) (link : Link) (x : List ℕ) → is_unhashed (choice_for s link x) ≡ true → queue_in (choice_for s link x) ≡ 0
unfolding chosen
unhashed-on-queue-0 s link x e = by (type_used s.flags (kind_of (ip_part link x))) e
  where
    by : (t : PacketType) → is_unhashed (chosen s.key (table_of s.mapping) (ip_part link x) t) ≡ true
        → queue_in (chosen s.key (table_of s.mapping) (ip_part link x) t) ≡ 0
    by no_type e = refl
    by (hash_type t) e = absurd (false≢true e)

pub unhashed-among-queue-0 : (s : Settings) (link : Link) (rs : List (List ℕ)) → length (unhashed_of s link rs) ≤ length (on_queue s link 0 rs)
unhashed-among-queue-0 s link [] = omega (arith, those-none packets-add (λ (x : List ℕ). is_unhashed (choice_for s link x)))
unhashed-among-queue-0 s link (x ∷ rs) =
    let none = those-one packets-add (λ (y : List ℕ). is_unhashed (choice_for s link y)) x rs in
    let on = those-one packets-add (λ (y : List ℕ). eqb (queue_in (choice_for s link y)) 0) x rs in
    let q = queue_in (choice_for s link x) in
    let one = by-test (λ (n : ℕ). n ≤ cond (eqb q 0) 1 0) (is_unhashed (choice_for s link x)) 1 0
    (λ e. rw (eq-eqb q 0 (unhashed-on-queue-0 s link x e)) (omega arith)) (λ e. omega arith) in
    omega (arith, none, on, one, unhashed-among-queue-0 s link rs)

pub no-packet-unhashed : (s : Settings) (frame : List ℕ) → holds_ip frame ≡ false → is_unhashed (choice_for s Ethernet frame) ≡ true
unfolding ip_part kind_of is_ipv4 is_ipv6 type_used chosen
no-packet-unhashed s frame e = rw e refl
