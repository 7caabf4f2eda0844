-- `cable_line` meets its contract. Assumes nothing.
use mathlib.Core.Path.{sym, ◌∙◌}
use Rattle.sheet_lines.specs.Lines.{cable_line}
use Rattle.sheet_lines.proofs.line.cable_line.Goals as goal

pub returns-then-is_formed : goal.returns-then-is_formed
unfolding cable_line
returns-then-is_formed c = rw (sym c.is_formed.ensures ∙ c.if-is_formed.true, c.three_wholes-numbers.ensures, c.four_reals-rates.ensures)

pub returns : goal.returns
unfolding cable_line
returns c = rw (sym c.is_formed.ensures ∙ c.if-is_formed.false)
