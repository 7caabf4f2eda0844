-- `whole_part` meets its contract. Assumes nothing.
use mathlib.Core.Path.{ap, ◌∙◌}
use borrow.Author.Rules.{rules}
use lib.Ieee.{neg}
use Rattle.float64.proofs.Whole.{below_whole, below_above, zero-whole}
use Rattle.float64.proofs.trunc.whole_part.Goals as goal

pub whole_part_above-requires-then-x-2 : goal.whole_part_above-requires-then-x-2
whole_part_above-requires-then-x-2 c = below_above _ c.if-x-2.true

pub returns-then-x-2 : goal.returns-then-x-2
returns-then-x-2 c = ap neg c.whole_part_above-then-x-2.ensures ∙ below_whole _

pub returns : goal.returns
returns c = zero-whole _ (search rules) c.if-x.false c.if-x-2.false
