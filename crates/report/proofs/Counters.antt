-- The counts while records are counted: with what is left they come to what all records come to.
use Rattle.octets.specs.Prelude.{◌≡◌, refl, sym, ◌∙◌, List, [], Bool, cond, ℕ, ◌+◌, ◌≤◌, ◌<◌, arith, length}
use Rattle.octets.specs.Prelude.{get_or, set, length-set, length-replicate, get_or-set_same, get_or-set_other, eqb, eqb-true, eqb-false, eq-eqb}
use lib.ListN.{get_or-replicate}
use Rattle.octets.specs.Outcome.{value, refused}
use Rattle.octets.proofs.Truth.{by-test}
use Rattle.octets.proofs.Outcomes.{test-refused}
use Rattle.messages.specs.Settings.{Settings}
use Rattle.steering.specs.Steering.{queue_in}
use Rattle.capture.specs.Records.{record_wrong, Fall, no_record, one_more, all_of, captured_octets}
use Rattle.capture.specs.declared.Link.{Link}
use Rattle.report.specs.Counting.{choice_for, is_unhashed, unhashed_of, on_queue, tally_of, Counted, counted_over}
use Rattle.report.specs.declared.Tally.{Tally}
use Rattle.report.specs.Inner.{nothing, nothing_on, tally_with, tally_on, with_packet, HasRoom}
use Rattle.report.proofs.Tallies.{Adds, packets-add, octets-add, those-one, those-none, those-less, rising-of}

-- a part of a tally, which a packet of n octets makes greater by a weight
record Part (part : Tally → ℕ) (more : ℕ → ℕ) : Type 0 where
  none : part nothing ≡ 0
  one : (t : Tally) (n : ℕ) → part (tally_with t n) ≡ part t + more n

packets-part : Part (λ (t : Tally). t.packets) (λ (n : ℕ). 1)
packets-part = record { none = refl; one = λ t n. refl }

octets-part : Part (λ (t : Tally). t.octets) (λ (n : ℕ). n)
octets-part = record { none = refl; one = λ t n. refl }

-- the tally of each queue once a packet was counted
counted : {part : Tally → ℕ} {more : ℕ → ℕ} (p : Part part more) (tallies : List Tally) (q k n : ℕ) → q < length tallies
    → part (get_or (set tallies q (tally_with (get_or tallies q nothing) n)) k nothing) ≡ part (get_or tallies k nothing) + cond (eqb q k) (more n) 0
counted {part} {more} p tallies q k n inside =
    let t : Tally = tally_with (get_or tallies q nothing) n in
    by-test (λ (x : ℕ). part (get_or (set tallies q t) k nothing) ≡ part (get_or tallies k nothing) + x) (eqb q k) (more n) 0
    (λ e. rw (← eqb-true q k e, get_or-set_same tallies q t nothing inside) (p.one (get_or tallies q nothing) n))
    (λ e. rw (get_or-set_other tallies q k t nothing (λ (d : k ≡ q). eqb-false q k e (sym d))) (omega arith))

module _ (s : Settings) (link : Link) where
  abbrev on : ℕ → List ℕ → Bool
  on k r = eqb (queue_in (choice_for s link r)) k

  abbrev no-hash : List ℕ → Bool
  no-hash r = is_unhashed (choice_for s link r)

  -- a part of the tallies, queue by queue
  abbrev ByQueue : (part : Tally → ℕ) (size : List (List ℕ) → ℕ) (all rest : Fall) (c : Counted) → Type 0
  ByQueue part size all rest c =
      (k : ℕ) → k < s.queues → part (tally_on c k) + size (on_queue s link k rest.records) ≡ size (on_queue s link k all.records)

  -- the counts so far, of `all` what stands before `rest`
  pub record Counting (all rest : Fall) (c : Counted) : Type 0 where
    pub left : rest.left ≡ all.left
    pub long : length c.queues ≡ s.queues
    pub packets : ByQueue (λ (t : Tally). t.packets) length all rest c
    pub octets : ByQueue (λ (t : Tally). t.octets) captured_octets all rest c
    pub unhashed : c.unhashed + length (unhashed_of s link rest.records) ≡ length (unhashed_of s link all.records)
    pub total-packets : c.total.packets + length rest.records ≡ length all.records
    pub total-octets : c.total.octets + captured_octets rest.records ≡ captured_octets all.records

  -- before the first
  pub counting-none : (all : Fall) → Counting all all (nothing_on s.queues)
  counting-none all =
      record {
        left = refl;
        long = length-replicate s.queues nothing;
        packets = none packets-part length;
        octets = none octets-part captured_octets;
        unhashed = omega arith;
        total-packets = omega arith;
        total-octets = omega arith;
      }
    where
      none : {part : Tally → ℕ} {more : ℕ → ℕ} (p : Part part more) (size : List (List ℕ) → ℕ) → ByQueue part size all all (nothing_on s.queues)
      none p size k l = rw (get_or-replicate {A = Tally} s.queues k nothing nothing l, p.none) (omega arith)

  -- one record more
  module _ (all rest : Fall) (r : List ℕ) (below : queue_in (choice_for s link r) < s.queues) where
    abbrev q : ℕ
    q = queue_in (choice_for s link r)

    module _ {part : Tally → ℕ} {more : ℕ → ℕ} (p : Part part more) {weight : List ℕ → ℕ} {size : List (List ℕ) → ℕ}
        (adds : Adds weight size) (same : more (length r) ≡ weight r) (c : Counted) (so : ByQueue part size all (one_more r rest) c)
      where
        queue-room : part (tally_on c q) + weight r ≤ size all.records
        queue-room =
            let own = rw (eq-eqb q q refl) at (those-one adds (on q) r rest.records) in
            omega (arith, so q below, own, those-less adds (on q) all.records)

        queue-next : length c.queues ≡ s.queues → ByQueue part size all rest (with_packet (choice_for s link r) (length r) c)
        queue-next long k l =
            let next = rw same at (counted p c.queues q k (length r) (omega (arith, below, long))) in
            omega (arith, next, so k l, those-one adds (on k) r rest.records)

    module _ {c : Counted} (so : Counting all (one_more r rest) c) where
      -- it has room, where all records together are not too many
      pub counting-room : length all.records + captured_octets all.records ≤ 65536 → HasRoom (choice_for s link r) (length r) c
      counting-room most =
          let packets = queue-room packets-part packets-add refl c so.packets in
          let octets = queue-room octets-part octets-add refl c so.octets in
          let unhashed = those-less packets-add no-hash all.records in
          record {
            queue = omega (arith, below, so.long);
            tally = record { packets = omega arith; octets = omega arith };
            unhashed = omega (arith, so.unhashed);
            total = record {
              packets = omega (arith, so.total-packets);
              octets = omega (arith, so.total-octets, octets-add.one r rest.records);
            };
          }

      -- and is counted
      pub counting-next : Counting all rest (with_packet (choice_for s link r) (length r) c)
      counting-next =
          record {
            left = so.left;
            long = length-set c.queues q _ ∙ so.long;
            packets = queue-next packets-part packets-add refl c so.packets so.long;
            octets = queue-next octets-part octets-add refl c so.octets so.long;
            unhashed = omega (arith, so.unhashed, those-one packets-add no-hash r rest.records);
            total-packets = omega (arith, so.total-packets);
            total-octets = omega (arith, so.total-octets, octets-add.one r rest.records);
          }

-- where what is left is bad, all is
pub counting-bad : {s : Settings} {link : Link} {all rest : Fall} {c : Counted} → Counting s link all rest c → (n : ℕ) → all_of rest ≡ refused n
    → all_of all ≡ refused record_wrong
counting-bad {s} {link} {all} {rest} so n e =
    rw (← so.left, (test-refused (eqb (length rest.left) 0) rest.records record_wrong n e).0) refl

-- behind the last
module _ {s : Settings} {link : Link} {all : Fall} {c : Counted} (so : Counting s link all (no_record []) c) where
  pub counting-all : all_of all ≡ value all.records
  counting-all = rw (← so.left) refl

  pub counting-done : c ≡ counted_over s link all.records
  unfolding counted_over
  counting-done =
      let f : ℕ → Tally = λ (k : ℕ). tally_of (on_queue s link k all.records) in
      let queues = rising-of s.queues f c.queues nothing so.long (λ k l.
      let packets : (tally_on c k).packets ≡ length (on_queue s link k all.records) =
      omega (arith, so.packets k l, those-none packets-add (on s link k)) in
      let octets : (tally_on c k).octets ≡ captured_octets (on_queue s link k all.records) =
      omega (arith, so.octets k l, those-none octets-add (on s link k)) in
      rw (← packets, ← octets) refl) in
      let unhashed : c.unhashed ≡ length (unhashed_of s link all.records) = omega (arith, so.unhashed, those-none packets-add (no-hash s link)) in
      let packets : c.total.packets ≡ length all.records = omega (arith, so.total-packets) in
      let octets : c.total.octets ≡ captured_octets all.records = omega (arith, so.total-octets, octets-add.none) in
      rw (← queues, ← unhashed, ← packets, ← octets) refl
