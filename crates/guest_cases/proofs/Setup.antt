-- A guest at setup is good, for the tactics.
use Rattle.frontend.proofs.Goodness.{good-at-setup}

pub ruleset setups = (good-at-setup)
