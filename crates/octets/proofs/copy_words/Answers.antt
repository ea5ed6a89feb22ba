-- `octets::copy_words` meets its contract: dst is what it was, with src's first k words at its start.
use Rattle.octets.specs.Prelude.{◌≡◌, ap, ◌∙◌, ℕ, ◌+◌, ◌*◌, ◌/◌, ◌≤◌, arith, length, take, drop, sets, length-sets}
use Rattle.octets.specs.Numbers.{octets_of}
use Rattle.octets.proofs.Copies.{copied_some}
use Rattle.octets.proofs.Numbers.{octets-number}
use Rattle.octets.proofs.copy_words.Goals as goal

pub loop-k-preserved : goal.loop-k-preserved
loop-k-preserved c =
    let a = c.args in
    let inv = c.loop-k.invariant in
    let i : ℕ = c.loop-k.k * 8 in
    let next : (c.loop-k.k + 1) * 8 ≡ i + 8 = omega arith in
    let within : i + 8 ≤ length a.src.now = omega arith in
    let word = octets-number 8 a.src.now i (λ k. (c.type_inv.src k).fits) within in
    let copied = copied_some 8 a.dst.now a.src.now c.loop-k.dst i (omega arith) within inv.0 in
    let same : octets_of 8 c.read_u64.result ≡ take 8 (drop i a.src.now) = ap (octets_of 8) c.read_u64.ensures ∙ word in
    (rw next (c.write_u64.ensures ∙ ap (sets c.loop-k.dst i) same ∙ copied), rw (c.write_u64.ensures, length-sets) inv.1)

pub returns : goal.returns
returns c = let all : c.loop-k.k ≡ length c.args.src.now / 8 = omega arith in (rw all at c.loop-k.invariant.0, omega arith)
