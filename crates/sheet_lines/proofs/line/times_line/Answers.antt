-- `times_line` meets its contract. Assumes nothing.
use mathlib.Core.Path.{sym, ◌∙◌}
use Rattle.sheet_lines.specs.Lines.{times_line}
use Rattle.sheet_lines.proofs.line.times_line.Goals as goal

pub returns-then-is_formed : goal.returns-then-is_formed
unfolding times_line
returns-then-is_formed c = rw (sym c.is_formed.ensures ∙ c.if-is_formed.true, c.real.ensures, c.real-then-is_formed.ensures)

pub returns : goal.returns
unfolding times_line
returns c = rw (sym c.is_formed.ensures ∙ c.if-is_formed.false)
