-- `capture::Order::number_at` meets its contract: no bit is lost, as there are at most four octets.
use Rattle.std.specs.Prelude.{fold, reverse}
use Rattle.octets.specs.Prelude.{◌≡◌, ◌-◌, ◌+◌, List, ℕ, arith, rules, take, drop}
use Rattle.capture.proofs.Joined.{joined, low-joined, high-joined}
use Rattle.capture.proofs.Order.number_at.Goals as goal

pub returns-in-HighFirst : goal.returns-in-HighFirst
returns-in-HighFirst g c =
    let part : List ℕ = take (c.args.at + g.row.N - c.args.at) (drop c.args.at c.args.octets.now) in
    let ran : c.fold-in-HighFirst.result ≡ fold joined 0 part = search rules in
    let n : c.args.at + g.row.N - c.args.at ≡ g.row.N = omega arith in
    rw (c.in-HighFirst.is, ran, n) (high-joined _ _ _ (λ i. (c.type_inv.octets i).fits) c.requires.inside c.requires.size)

pub returns-in-LowFirst : goal.returns-in-LowFirst
returns-in-LowFirst g c =
    let part : List ℕ = take (c.args.at + g.row.N - c.args.at) (drop c.args.at c.args.octets.now) in
    let ran : c.fold.result ≡ fold joined 0 (reverse part) = search rules in
    let n : c.args.at + g.row.N - c.args.at ≡ g.row.N = omega arith in
    rw (c.in-LowFirst.is, ran, n) (low-joined _ _ _ (λ i. (c.type_inv.octets i).fits) c.requires.inside c.requires.size)
