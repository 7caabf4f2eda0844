-- `with_cable` meets its contract. Assumes nothing.
use borrow.Author.Tests.{lt-ltb, le-ltb}
use Rattle.sheet_parts.specs.Parts.{cable_taken}
use Rattle.sheet_parts.proofs.parts.with_cable.Goals as goal

pub returns-then-n-lt-MOST_CABLES : goal.returns-then-n-lt-MOST_CABLES
unfolding cable_taken
returns-then-n-lt-MOST_CABLES c = rw (lt-ltb _ _ c.if-n-lt-MOST_CABLES.true, c.counted_on.ensures)

pub returns-else-n-lt-MOST_CABLES : goal.returns-else-n-lt-MOST_CABLES
unfolding cable_taken
returns-else-n-lt-MOST_CABLES c = rw (le-ltb _ _ c.if-n-lt-MOST_CABLES.false, c.counted_on.ensures)
