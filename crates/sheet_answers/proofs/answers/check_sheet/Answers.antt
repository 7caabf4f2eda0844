-- `check_sheet` meets its contract. Assumes nothing.
use Rattle.rules.specs.Studies.{number_of}
use Rattle.sheet_answers.proofs.Answered.{line_refused, accepted_way}
use Rattle.sheet_answers.proofs.answers.check_sheet.Goals as goal

pub returns-in-Some : goal.returns-in-Some
returns-in-Some c = line_refused _ _ _ c.in-Some.is c.counted_on-next.ensures

pub returns : goal.returns
unfolding number_of
returns c = accepted_way _ c.in_default.is c.if-s-lt2.false c.in_default-check_rules.ensures
