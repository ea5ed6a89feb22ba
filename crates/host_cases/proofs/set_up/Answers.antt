-- `host_cases::set_up` meets its contract: setup gives a good interface, or leaves the one that there is.
use Rattle.octets.specs.Prelude.{◌≡◌, ◌&&◌, ℕ, leb, leb-true}
use Rattle.octets.specs.Outcome.{Outcome, placed, itself}
use Rattle.octets.proofs.Truth.{both_true, by-test}
use Rattle.messages.specs.Settings.{max_queues}
use Rattle.interface.specs.States.{HostState, Good, state_of, set_up_outcome}
use Rattle.backend.proofs.Goodness.{good-interface}
use Rattle.host_cases.proofs.set_up.Goals as goal

placed-good : (q : ℕ) (s t : HostState) → Good s → t ≡ placed itself (set_up_outcome q) s → Good t
unfolding set_up_outcome
placed-good q s t good left =
    rw left
    (by-test (λ (o : Outcome HostState). Good (placed itself o s)) (leb 1 q && leb q max_queues) _ _
    (λ e. let x = (both_true (leb 1 q) (leb q max_queues)).0 e in good-interface q (leb-true _ _ x.0) (leb-true _ _ x.1))
    (λ e. good))

pub returns-in-Ok : goal.returns-in-Ok
returns-in-Ok c = placed-good c.read_u32.result (state_of c.args.i.now) _ c.requires c.set_up.ensures.1
