-- `requests::judge` meets its contract: a type that is none of the four is refused.
use Rattle.requests.proofs.Carrying.{unnamed}
use Rattle.requests.proofs.judge.Goals as goal

pub returns-in_err-try_from-clause-settings_after : goal.returns-in_err-try_from-clause-settings_after
returns-in_err-try_from-clause-settings_after c = λ fits. unnamed _ _ _ c.in_err-try_from.ensures c.from_residual.ensures.1 _ _ _
