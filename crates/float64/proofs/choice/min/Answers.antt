-- `min` meets its contract. Assumes nothing.
use Rattle.float64.proofs.Choosing.{min_is}
use Rattle.float64.proofs.choice.min.Goals as goal

pub returns-then-x : goal.returns-then-x
returns-then-x c = simp (min_is, c.if-x.true)

pub returns-then-y-x : goal.returns-then-y-x
returns-then-y-x c = simp (min_is, c.if-x.false, c.if-y-x.true)

pub returns-else-y-x : goal.returns-else-y-x
returns-else-y-x c = simp (min_is, c.if-x.false, c.if-y-x.false)
