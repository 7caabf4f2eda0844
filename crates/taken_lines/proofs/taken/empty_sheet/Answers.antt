-- `empty_sheet` meets its contract. Assumes nothing.
use Rattle.taken_lines.specs.Taken.{empty_sheet}
use Rattle.taken_lines.proofs.taken.empty_sheet.Goals as goal

pub returns : goal.returns
unfolding empty_sheet
returns c = rw c.new.ensures
