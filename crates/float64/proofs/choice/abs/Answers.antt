-- `abs` meets its contract. Assumes nothing.
use mathlib.Core.Path.{sym}
use borrow.Author.Rules.{rules}
use Rattle.float64.proofs.Choosing.{abs_below, abs_above}
use Rattle.float64.proofs.choice.abs.Goals as goal

pub returns-then-x : goal.returns-then-x
returns-then-x c = sym (abs_below _ (search rules) c.if-x.true)

pub returns-else-x : goal.returns-else-x
returns-else-x c = sym (abs_above _ c.if-x.false)
