-- `frontend::starting::start` meets its contract: a start is stopped, its request is refused, or it begins.
use Rattle.octets.specs.Prelude.{refl, ◌∙◌, arith}
use Rattle.std.proofs.Common.{Ok, Result}
use Rattle.std.proofs.lemmas.Result.{err_from_is_err_and}
use Rattle.guest_steps.specs.Guest.{state_of}
use Rattle.guest_steps.specs.Calls.{message_of, refused_with}
use Rattle.guest_steps.specs.declared.Progress.{Progress}
use Rattle.frontend.specs.Starts.{started}
use Rattle.frontend.specs.declared.starting.StartRefusal.{StartRefusal}
use Rattle.frontend.proofs.Goodness.{start-leaves-good}
use Rattle.frontend.proofs.Starts.{asks, refused-by, written-fits, wrote, starts-refused, starts_with}
use Rattle.frontend.proofs.starting.start.Goals as goal

pub returns-in_err-length : goal.returns-in_err-length
returns-in_err-length c =
    let g = state_of c.args.guest.now in
    let m = message_of c.args.ask in
    let both = refused-by c.args.ask c.args.guest.now.request c.write_request.new.place _ c.requires.request.size c.in_err-length.ensures in
    let p = err_from_is_err_and c.from_residual-in_err-length.result c.from_residual-in_err-length.ensures.1 in
    rw (p.1, p.2, both.1) (start-leaves-good m (refused_with _ g c.args.page.now) g c.args.page.now (asks c.args.ask) c.requires
    (starts-refused m g c.args.page.now c.in_ok-room.room c.in_ok-room.ensures.value _ both.0))

pub begin-requires-clause-page_len : goal.begin-requires-clause-page_len
begin-requires-clause-page_len c =
    let within = c.in_ok-room.ensures.within in
    (within.0, within.1, omega (arith, written-fits c.args.ask _ _ _ c.in_ok-length.ensures))

pub returns : goal.returns
returns c =
    let g = state_of c.args.guest.now in
    let m = message_of c.args.ask in
    let r : Result Progress StartRefusal = Ok c.begin.result in
    let w = wrote m c.args.guest.now.request _ _ c.in_ok-length.ensures c.in_ok-length.length refl in
    start-leaves-good m (started r (state_of c.begin.new.guest) c.begin.new.page) g c.args.page.now (asks c.args.ask) c.requires
    (c.begin.ensures ∙ starts_with m g c.args.page.now c.in_ok-room.room c.in_ok-room.ensures.value _ _ w)
