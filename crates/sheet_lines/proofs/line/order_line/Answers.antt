-- `order_line` meets its contract. Assumes nothing.
use mathlib.Core.Path.{sym, ◌∙◌}
use Rattle.sheet_lines.specs.Lines.{order_line}
use Rattle.sheet_lines.proofs.line.order_line.Goals as goal

pub returns-then-is_formed : goal.returns-then-is_formed
unfolding order_line
returns-then-is_formed c = rw (sym c.is_formed.ensures ∙ c.if-is_formed.true, c.real.ensures, c.real-then-is_formed.ensures, c.whole.ensures, c.whole-then-is_formed.ensures)

pub returns : goal.returns
unfolding order_line
returns c = rw (sym c.is_formed.ensures ∙ c.if-is_formed.false)
