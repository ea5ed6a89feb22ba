-- The lines of queues: one queue more is one line more, behind the others.
use Rattle.octets.specs.Prelude.{◌≡◌, refl, sym, ap, ◌∙◌, List, [], ◌∷◌, ◌++◌, append_assoc, append-nil, ℕ, suc, ◌+◌, ◌<◌, add-one, add-zero, arith}
use Rattle.octets.specs.Prelude.{length, get_or, take, length-take-le}
use lib.Seq.{take-suc}
use Rattle.report.specs.declared.Tally.{Tally}
use Rattle.report_text.specs.ReportLines.{queue_line, queue_lines}

lines-append : (j : ℕ) (xs ys : List Tally) → queue_lines j (xs ++ ys) ≡ queue_lines j xs ++ queue_lines (j + length xs) ys
unfolding queue_lines
lines-append j [] ys = ap (λ (k : ℕ). queue_lines k ys) (sym (add-zero j))
lines-append j (x ∷ xs) ys =
    let place : suc j + length xs ≡ j + suc (length xs) = omega arith in
    ap (λ (l : List ℕ). queue_line j x ++ l) (rw place at (lines-append (suc j) xs ys))
    ∙ sym (append_assoc (queue_line j x) (queue_lines (suc j) xs) (queue_lines (j + suc (length xs)) ys))

lines_one : (j : ℕ) (t : Tally) → queue_lines j (t ∷ []) ≡ queue_line j t
unfolding queue_lines
lines_one j t = append-nil (queue_line j t)

-- from queue 0 on, as the loop goes over the tallies
pub lines_none : queue_lines 0 [] ≡ []
unfolding queue_lines
lines_none = refl

pub lines_next : (tallies : List Tally) (k : ℕ) (d : Tally) → k < length tallies
    → queue_lines 0 (take (k + 1) tallies) ≡ queue_lines 0 (take k tallies) ++ queue_line k (get_or tallies k d)
lines_next tallies k d inside =
    let n : 0 + length (take k tallies) ≡ k = omega (arith, length-take-le k tallies (omega arith)) in
    let t : Tally = get_or tallies k d in
    ap (λ (i : ℕ). queue_lines 0 (take i tallies)) (add-one k)
    ∙ ap (queue_lines 0) (take-suc tallies k d inside)
    ∙ lines-append 0 (take k tallies) (t ∷ [])
    ∙ ap (λ (l : List ℕ). queue_lines 0 (take k tallies) ++ l) (lines_one (0 + length (take k tallies)) t ∙ ap (λ (i : ℕ). queue_line i t) n)
