-- `is_before_parts` meets its contract. Assumes nothing.
use Rattle.rules.specs.Studies.{number_of}
use Rattle.sheet_answers.proofs.Answered.{some_rule}
use Rattle.sheet_answers.proofs.answers.is_before_parts.Goals as goal

pub returns-in-Err : goal.returns-in-Err
unfolding number_of
returns-in-Err c = rw (c.in-Err.is, c.number.ensures) (some_rule _ _)
