use Rattle.octets.specs.Prelude.{◌≡◌, ◌++◌, ◌*◌, length, take, drop}
use Rattle.octets.proofs.copy_words.Given as goal

abbrev pub invariant-loop-k : goal.invariant-loop-k
invariant-loop-k l = (l.dst ≡ take (l.k * 8) l.src ++ drop (l.k * 8) l.initial.dst) × (length l.dst ≡ length l.initial.dst)
