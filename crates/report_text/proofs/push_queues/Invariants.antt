-- The loop of `report_text::push_queues`: the lines of the first queues stand behind the text, each of at most `longest_queue` octets.
use Rattle.octets.specs.Prelude.{◌+◌, ◌*◌, ◌≤◌, length, take}
use Rattle.text.specs.Text.{Adds}
use Rattle.report_text.specs.ReportLines.{longest_queue, queue_lines}
use Rattle.report_text.proofs.push_queues.Given as goal

abbrev pub invariant-loop-queue : goal.invariant-loop-queue
invariant-loop-queue l = record {
  adds : Adds l.initial.text (queue_lines 0 (take l.queue l.queues)) l.text;
  short : length l.text ≤ length l.initial.text + l.queue * longest_queue;
}
