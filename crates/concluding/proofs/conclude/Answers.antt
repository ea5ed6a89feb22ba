-- `concluding::conclude` meets its contract: its test is that of `after_read`, and what it calls does what the definitions
-- say.
use Rattle.octets.specs.Prelude.{sym, ◌∙◌}
use Rattle.interface.specs.States.{state_of}
use Rattle.concluding.proofs.Steps.{concludes-whole, concludes-part}
use Rattle.concluding.proofs.conclude.Goals as goal

pub returns-then-is_whole : goal.returns-then-is_whole
returns-then-is_whole c =
    c.respond.ensures
    ∙ concludes-whole (state_of c.args.i.now) _ _ _ (sym c.is_whole.ensures ∙ c.if-is_whole.true) (c.carry_out.ensures c.requires.good.1)

pub returns : goal.returns
returns c = concludes-part (state_of c.args.i.now) _ _ _ (sym c.is_whole.ensures ∙ c.if-is_whole.false) c.write_counts.ensures
