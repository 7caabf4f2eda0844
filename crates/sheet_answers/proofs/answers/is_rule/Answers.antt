-- `is_rule` meets its contract. Assumes nothing.
use Rattle.rules.specs.Studies.{number_of}
use Rattle.sheet_answers.proofs.Answered.{no_rule}
use Rattle.sheet_answers.proofs.answers.is_rule.Goals as goal

pub returns-in-Ok : goal.returns-in-Ok
unfolding number_of
returns-in-Ok c = rw c.in-Ok.is (no_rule _)
