-- `max` meets its contract. Assumes nothing.
use Rattle.float64.proofs.Choosing.{max_is}
use Rattle.float64.proofs.choice.max.Goals as goal

pub returns-then-a : goal.returns-then-a
returns-then-a c = simp (max_is, c.if-a.true)

pub returns-then-a-b : goal.returns-then-a-b
returns-then-a-b c = simp (max_is, c.if-a.false, c.if-a-b.true)

pub returns-else-a-b : goal.returns-else-a-b
returns-else-a-b c = simp (max_is, c.if-a.false, c.if-a-b.false)
