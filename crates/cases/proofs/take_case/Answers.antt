-- `cases::take_case` meets its contract: the body and what is behind it are those of the case that the octets begin with.
use Rattle.octets.specs.Prelude.{sym, ◌∙◌}
use Rattle.cases.proofs.Parts.{cut-short, whole-case}
use Rattle.cases.proofs.take_case.Goals as goal

pub returns-in_default-split_at_checked-clause-kind : goal.returns-in_default-split_at_checked-clause-kind
returns-in_default-split_at_checked-clause-kind c =
    let parts = c.in-Some.ensures.cases in
    let cut = cut-short c.args.cases.now _ c.in-Some.rest.now _ parts.0 parts.1 parts.2 c.number_at.ensures.0
    c.in_default-split_at_checked.ensures.cases in
    c.cut_case-in_default-split_at_checked.ensures.0 ∙ sym cut.0

pub returns-in_default-split_at_checked-clause-body : goal.returns-in_default-split_at_checked-clause-body
returns-in_default-split_at_checked-clause-body c =
    let parts = c.in-Some.ensures.cases in
    let cut = cut-short c.args.cases.now _ c.in-Some.rest.now _ parts.0 parts.1 parts.2 c.number_at.ensures.0
    c.in_default-split_at_checked.ensures.cases in
    c.cut_case-in_default-split_at_checked.ensures.1 ∙ sym cut.1

pub returns-in_default-split_at_checked-clause-behind : goal.returns-in_default-split_at_checked-clause-behind
returns-in_default-split_at_checked-clause-behind c =
    let parts = c.in-Some.ensures.cases in
    let cut = cut-short c.args.cases.now _ c.in-Some.rest.now _ parts.0 parts.1 parts.2 c.number_at.ensures.0
    c.in_default-split_at_checked.ensures.cases in
    c.cut_case-in_default-split_at_checked.ensures.2 ∙ sym cut.2

pub returns-clause-kind : goal.returns-clause-kind
returns-clause-kind c =
    let parts = c.in-Some.ensures.cases in
    let split = c.in-Some-split_at_checked.ensures.cases in
    let whole = whole-case c.args.cases.now _ c.in-Some.rest.now _ parts.0 parts.1 parts.2 c.number_at.ensures.0 split.0 in
    whole.0

pub returns-clause-body : goal.returns-clause-body
returns-clause-body c =
    let parts = c.in-Some.ensures.cases in
    let split = c.in-Some-split_at_checked.ensures.cases in
    let whole = whole-case c.args.cases.now _ c.in-Some.rest.now _ parts.0 parts.1 parts.2 c.number_at.ensures.0 split.0 in
    split.1 ∙ whole.1

pub returns-clause-behind : goal.returns-clause-behind
returns-clause-behind c =
    let parts = c.in-Some.ensures.cases in
    let split = c.in-Some-split_at_checked.ensures.cases in
    let whole = whole-case c.args.cases.now _ c.in-Some.rest.now _ parts.0 parts.1 parts.2 c.number_at.ensures.0 split.0 in
    split.2 ∙ whole.2
