-- The worked lines hold: hashes, queue and offsets by computation, the two-way answers by the law that finds them from windows alone.
use Rattle.octets.specs.Prelude.{◌≡◌, refl, ◌∙◌, List, not, ℕ, ◌*◌, ◌≤◌, eqb, lit≤, length}
use Rattle.octets.specs.Outcome.{value}
use Rattle.toeplitz.specs.Hash.{key_length, bits_at, window_at, when_set, term_at, xor_below, published_hash}
use Rattle.toeplitz.specs.TwoWay.{last_type, input_size, Verdict, lowest, two_way_outcome}
use Rattle.toeplitz.proofs.Mirror.{pick, mirror}
use Rattle.toeplitz.proofs.TwoWays.{mirror_window, verdict-windows}
use Rattle.toeplitz.proofs.Theorems.{two-way-is-verdict}
use Rattle.page.specs.Page.{offsets}
use Rattle.steering.specs.Steering.{queue_of}
use Rattle.worked_lines.specs.Lines.{up_from, counting_key, sparse_key, zero_key, Each, none, ◌and◌, lines}

by-windows : (key : List ℕ) (t : ℕ) {v : Verdict} → length key ≡ key_length → t ≤ last_type
    → lowest (λ b. not (eqb (window_at key b) (mirror_window key t b))) (input_size t * 8) ≡ v → two_way_outcome key t ≡ value v
by-windows key t {v} hk ht e = (two-way-is-verdict key t v).1 (hk, ht, verdict-windows key t ∙ e)

pub worked-lines : Each lines
unfolding published_hash xor_below term_at when_set window_at bits_at up_from counting_key sparse_key zero_key lowest pick mirror queue_of offsets
worked-lines =
    refl
    and refl
    and refl
    and refl
    and refl
    and refl
    and refl
    and refl
    and by-windows sparse_key 0 refl (lit≤ tt) refl
    and by-windows sparse_key 1 refl (lit≤ tt) refl
    and by-windows sparse_key 2 refl (lit≤ tt) refl
    and by-windows counting_key 0 refl (lit≤ tt) refl
    and by-windows zero_key 0 refl (lit≤ tt) refl
    and by-windows zero_key 1 refl (lit≤ tt) refl
    and by-windows zero_key 2 refl (lit≤ tt) refl
    and by-windows zero_key 3 refl (lit≤ tt) refl
    and none
