-- The settings that messages leave, message by message.
use Rattle.octets.specs.Prelude.{◌≡◌, refl, sym, ap, ◌∙◌, List, [], ◌∷◌, ◌++◌, append-nil, Bool, true, false, cond, ◌&&◌, ℕ}
use Rattle.octets.specs.Prelude.{◌+◌, ◌≤◌, ◌<◌, arith, length, get_or, take, drop, length-drop, length-take-le, take_all}
use Rattle.octets.specs.Prelude.{take-add, drop_at, get_or-take, eqb, leb, eq-eqb, ne_eqb, leb-true}
use Rattle.octets.specs.Outcome.{Outcome, value, refused, and_then, done, number_of, placed, itself}
use Rattle.octets.proofs.Truth.{both_true, by-test}
use Rattle.octets.proofs.Numbers.{number_same}
use Rattle.messages.specs.Wire.{header_size, size_in, type_in, payload_in, max_payload, success}
use Rattle.messages.specs.Settings.{Settings, max_queues, Good}
use Rattle.messages.specs.Requests.{Carried, request_of, ack_status, carried_out, carried_message}
use Rattle.messages.proofs.Looks.{carried_same}
use Rattle.messages.proofs.Theorems.{good-at-setup}
use Rattle.ring.specs.Streams.{begins_whole, first_message, behind_first}
use Rattle.ring.proofs.Holdings.{size-front}
use Rattle.interface.specs.States.{HostState, queues_wrong, interface_at_setup, set_up_outcome}
use Rattle.backend.specs.Streams.{messages_within, rest_within, rest_of, settings_after}
use Rattle.backend.proofs.Falls.{falls-first, falls-none}
use Rattle.settings_file.specs.Loading.{settings_wrong, all_succeed, settings_from, settings_outcome}
use Rattle.settings_file.specs.Inner.{Keeps}

-- no octets leave the settings
pub from-none : (s : Settings) → settings_from s [] ≡ value s
unfolding settings_from all_succeed messages_within rest_within settings_after
from-none s = refl

pub from_empty : (s : Settings) (xs : List ℕ) → length xs ≡ 0 → settings_from s xs ≡ value s
from_empty s [] e = from-none s
from_empty s (x ∷ xs) e = absurd (omega arith)

-- a message that is cut short
pub from_cut : (s : Settings) (xs : List ℕ) → 0 < length xs → begins_whole xs ≡ false → settings_from s xs ≡ refused settings_wrong
unfolding settings_from
from_cut s xs some e =
    let left : eqb (length (rest_of xs)) 0 ≡ false = rw (falls-none xs e).1 (ne_eqb (length xs) 0 (omega arith)) in
    rw left refl

module _ (s : Settings) (xs : List ℕ) (whole : begins_whole xs ≡ true) where
  abbrev first : Carried
  first = carried_message s (first_message xs) []

  -- a message that is not acked with success
  pub from-refused : (ack_status first ≡ success → ⊥) → settings_from s xs ≡ refused settings_wrong
  unfolding settings_from all_succeed
  from-refused h =
      rw ((falls-first xs whole).0, ne_eqb (ack_status first) success h) (no_second (eqb (length (rest_of xs)) 0) _ _)
    where
      no_second : {A : Type 0} (t : Bool) (x y : A) → cond (t && false) x y ≡ y
      no_second true x y = refl
      no_second false x y = refl

  -- a message that is: what is behind it goes on from the settings that it leaves
  pub from_next : ack_status first ≡ success → settings_from s xs ≡ settings_from first.settings (behind_first xs)
  unfolding settings_from all_succeed settings_after
  from_next e = rw ((falls-first xs whole).0, (falls-first xs whole).1, eq-eqb (ack_status first) success e) refl

-- the message that octets begin with, as the host carries it out: with the octets kept of its payload, whatever stands behind them
pub first-carried : (s : Settings) (xs kept : List ℕ) → begins_whole xs ≡ true → Keeps (take (size_in xs) (drop header_size xs)) kept
    → carried_out s (type_in xs) (size_in xs) kept ≡ carried_message s (first_message xs) []
first-carried s xs kept whole keeps =
    let n : ℕ = size_in xs in
    let m = first_message xs in
    let p = take n (drop header_size xs) in
    let fits : header_size + n ≤ length xs = leb-true (header_size + n) (length xs) whole in
    let size : size_in m ≡ n = size-front (header_size + n) xs (omega arith) in
    let kind : type_in m ≡ type_in xs = number_same 4 m xs 0 0 (λ k l. get_or-take (header_size + n) xs (0 + k) 0 (omega arith)) in
    let part : payload_in m ≡ p =
    ap (drop header_size) (take-add header_size n xs) ∙ drop_at (take header_size xs) p header_size (length-take-le _ xs (omega arith)) in
    let long : length p ≡ n = length-take-le n (drop header_size xs) (omega (arith, length-drop header_size xs)) in
    let own : take n (payload_in m ++ []) ≡ p = rw (append-nil, part) (take_all n p (omega arith)) in
    let same : n ≤ max_payload → take n kept ≡ take n (payload_in m ++ []) = λ short. rw long at (keeps.begins (omega arith)) ∙ sym own in
    rw (kind, size) (carried_same s n kept (payload_in m ++ []) same (request_of (type_in xs)))

-- setup: it passes, or it is refused
by-setup : (P : Outcome HostState → Type 0) (q : ℕ) → (1 ≤ q → q ≤ max_queues → P (value (interface_at_setup q))) → P (refused queues_wrong)
    → P (set_up_outcome q)
unfolding set_up_outcome
by-setup P q passes refuses =
    by-test P (leb 1 q && leb q max_queues) _ _
    (λ e. let x = (both_true (leb 1 q) (leb q max_queues)).0 e in passes (leb-true 1 q x.0) (leb-true q max_queues x.1)) (λ e. refuses)

-- a setup that is done leaves good settings, whatever was there before
pub set-up-good : (q : ℕ) (before : HostState) → number_of (set_up_outcome q) ≡ done → Good (placed itself (set_up_outcome q) before).settings
set-up-good q before =
    by-setup (λ (x : Outcome HostState). number_of x ≡ done → Good (placed itself x before).settings) q (λ l h _. good-at-setup q l h)
    (λ z. absurd (omega (arith, z)))

abbrev loaded : List ℕ → Outcome HostState → Outcome Settings
loaded xs x = and_then x (λ (i : HostState). settings_from i.settings xs)

-- the queue count of a file that is refused
pub load-refused : (file : List ℕ) → queues_wrong ≡ number_of (set_up_outcome (get_or file 0 0)) → refused queues_wrong ≡ settings_outcome file
unfolding settings_outcome
load-refused [] e = refl
load-refused (q ∷ xs) e =
    by-setup (λ (x : Outcome HostState). queues_wrong ≡ number_of x → refused queues_wrong ≡ loaded xs x) q
    (λ _ _ z. absurd (omega (arith, z))) (λ z. refl) e

-- and the messages behind one that is not
pub load-done : (file : List ℕ) (before : HostState) → number_of (set_up_outcome (get_or file 0 0)) ≡ done
    → settings_from (placed itself (set_up_outcome (get_or file 0 0)) before).settings (drop 1 file) ≡ settings_outcome file
unfolding settings_outcome set_up_outcome
load-done [] before e = absurd (omega (arith, e))
load-done (q ∷ xs) before e =
    let P : Outcome HostState → Type 0 =
    λ (x : Outcome HostState). number_of x ≡ done → settings_from (placed itself x before).settings xs ≡ loaded xs x in
    by-setup P q (λ _ _ z. refl) (λ z. absurd (omega (arith, z))) e

-- the same where the count and the messages were taken from the file, and the interface was set up
pub set-up-done : (file messages : List ℕ) (count : ℕ) (before after : HostState) → count ≡ get_or file 0 0 → messages ≡ drop 1 file
    → number_of (set_up_outcome count) ≡ done → after ≡ placed itself (set_up_outcome count) before
    → Good after.settings × (settings_from after.settings messages ≡ settings_outcome file)
set-up-done file messages count before after e behind is left = (
  rw left (set-up-good count before is),
  rw (left, behind, e) (load-done file before (rw e at is)),
)
