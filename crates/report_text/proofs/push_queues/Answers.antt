-- `report_text::push_queues` meets its contract: each turn of the loop puts the line of one queue more behind the others.
use Rattle.octets.specs.Prelude.{sym, ap, ◌∙◌, List, ◌++◌, append-nil, ℕ, arith}
use Rattle.text.proofs.Growth.{adds_then}
use Rattle.report_text.proofs.Rows.{lines_none, lines_next}
use Rattle.report_text.proofs.push_queues.Goals as goal

pub loop-queue-init : goal.loop-queue-init
loop-queue-init c = record { adds = rw lines_none (sym (append-nil _)); short = omega arith }

pub loop-queue-preserved : goal.loop-queue-preserved
loop-queue-preserved c =
    let at = c.loop-queue in
    record {
      adds = adds_then _ _ _ _ _ at.invariant.adds c.push_queue.ensures.adds
          ∙ ap (λ (l : List ℕ). c.args.text.now ++ l) (sym (lines_next c.args.queues.now at.queue _ c.loop-queue-test.true));
      short = omega (arith, at.invariant.short, c.push_queue.ensures.length_bound);
    }
