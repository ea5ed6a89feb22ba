-- What the writer answered and left, as an exported call tells it.
use Rattle.std.specs.Prelude.{Result}
use Rattle.octets.specs.Prelude.{◌≡◌, ap, ◌∙◌, List, ℕ}
use Rattle.octets.specs.Outcome.{Outcome, number_of, placed, itself}
use Rattle.guest_messages.specs.Writer.{After, written, written_outcome_of, after}
use Rattle.guest_messages.specs.declared.WriteRefusal.{WriteRefusal}
use Rattle.by_number.specs.Answers.{Writes}

pub writes : (message : Outcome (List ℕ)) (buffer left : List ℕ) (answer : Result ℕ WriteRefusal) (before r length : ℕ)
    → after answer left ≡ written message buffer
    → (r ≡ number_of (written_outcome_of answer)) × (length ≡ placed itself (written_outcome_of answer) before)
    → Writes message buffer before r left length
writes message buffer left answer before r length e t =
    let same : written_outcome_of answer ≡ (written message buffer).answer = ap (λ (a : After). a.answer) e in
    record {
      number = t.0 ∙ ap number_of same;
      octets = ap (λ (a : After). a.buffer) e;
      place = t.1 ∙ ap (λ (o : Outcome ℕ). placed itself o before) same;
    }
