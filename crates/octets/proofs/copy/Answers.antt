-- `octets::copy` meets its contract: once the words are copied, the rest is.
use Rattle.octets.specs.Prelude.{◌≡◌, length}
use Rattle.octets.proofs.Copies.{copied-start}
use Rattle.std.proofs.Common.{rules}
use Rattle.octets.proofs.copy.Goals as goal

pub copy_rest-requires : goal.copy_rest-requires
copy_rest-requires c =
    let a = c.args in
    let e = c.copy_words-done.ensures in
    let long : length a.src.now ≡ length c.copy_words-done.new.dst = search rules in
    record { src_len = (long, e.1); dst_value = rw e.0 (copied-start a.dst.now a.src.now c.copy_words-done.result e.1) }
