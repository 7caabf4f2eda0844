-- `first_of` meets its contract. Assumes nothing.
use borrow.Author.Tests.{eq-eqb, ne_eqb}
use Rattle.taken_lines.specs.Taken.{first_of}
use Rattle.taken_lines.proofs.taken.first_of.Goals as goal

pub returns-then-before-ne0 : goal.returns-then-before-ne0
unfolding first_of
returns-then-before-ne0 c = rw (ne_eqb _ _ c.if-before-ne0.true)

pub returns-then-bad : goal.returns-then-bad
unfolding first_of
returns-then-bad c = rw (eq-eqb _ _ c.if-before-ne0.false, c.if-bad.true)

pub returns-else-bad : goal.returns-else-bad
unfolding first_of
returns-else-bad c = rw (eq-eqb _ _ c.if-before-ne0.false, c.if-bad.false)
