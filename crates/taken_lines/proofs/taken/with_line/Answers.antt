-- `with_line` meets its contract. Assumes nothing.
use mathlib.Core.Path.{sym, ◌∙◌}
use Rattle.taken_lines.proofs.Ways.{fault_way}
use Rattle.taken_lines.proofs.taken.with_line.Goals as goal

pub returns-in-Err : goal.returns-in-Err
returns-in-Err c = fault_way _ _ (sym c.has_stopped.ensures ∙ c.if-has_stopped.false) _ c.place_of-place.ensures _ c.in-Err.ensures
