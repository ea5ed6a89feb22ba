-- Good settings: at setup, and after each success.
use Rattle.octets.specs.Prelude.{◌≡◌, sym, subst, List, [], ◌∷◌, true, ℕ, zero, suc, ◌/◌, ◌≤◌, arith, length}
use Rattle.octets.specs.Prelude.{length-append, length-replicate, take-append_seam, length-take-le}
use Rattle.toeplitz.specs.Hash.{key_length}
use Rattle.messages.specs.Wire.{field_size, success, all_flags}
use Rattle.messages.specs.Settings.{max_entries, is_power_of_two, EachBelow, table_of, mapping_of, GoodMapping, Good, Settings}
use Rattle.messages.specs.Requests.{Request, get_flags, set_flags, set_key, set_mapping, none, entries_in, status_of, replaced}
use Rattle.messages.specs.declared.Mapping.{Mapping}
use Rattle.messages.proofs.Powers.{listed-parts}
use Rattle.messages.proofs.Tables.{length-entries, all-below-exactly}
use Rattle.messages.proofs.Statuses.{set-flags-exactly, set-mapping-exactly}

-- the mapping of a table holds it
pub table-stored : (table : List ℕ) → table_of (mapping_of table) ≡ table
table-stored table = take-append_seam table _

pub good-mapping : (q : ℕ) (table : List ℕ) → is_power_of_two (length table) ≡ true → length table ≤ max_entries
    → EachBelow q table → GoodMapping q (mapping_of table)
good-mapping q table e l h =
    record {
      size = simp (length-append, length-replicate) (omega arith);
      listed = (listed-parts (length table)).1 (e, l);
      below = subst (EachBelow q) (sym (table-stored table)) h;
    }

pub first-table : (q : ℕ) → 1 ≤ q → EachBelow q (0 ∷ [])
first-table q some zero l = some
first-table q some (suc i) l = absurd (omega arith)

module _ (s : Settings) (n : ℕ) (p : List ℕ) (good : Good s) (whole : key_length ≤ length p) where
  with-parts : (flags : ℕ) (key : List ℕ) (m : Mapping) → flags ≤ all_flags → length key ≡ key_length → GoodMapping s.queues m
      → Good (record { queues = s.queues; flags = flags; key = key; mapping = m })
  with-parts flags key m f k g = record { some-queue = good.some-queue; queues = good.queues; flags = f; key = k; mapping = g }

  pub good-replaced : (r : Request) → status_of r s.queues n p ≡ success → Good (replaced r s n p)
  unfolding replaced
  good-replaced get_flags e = good
  good-replaced set_flags e = with-parts _ _ _ ((set-flags-exactly s.queues n p).0 e).1 good.key good.mapping
  good-replaced set_key e = with-parts _ _ _ good.flags (length-take-le key_length p whole) good.mapping
  good-replaced set_mapping e =
      let table = entries_in (n / field_size) p in
      let long : length table ≡ n / field_size = length-entries (n / field_size) p in
      let x = (set-mapping-exactly s.queues n p).0 e in
      with-parts _ _ _ good.flags good.key
      (good-mapping s.queues table (rw long x.power) (rw long x.few) ((all-below-exactly s.queues table).0 x.below))
  good-replaced none e = good
