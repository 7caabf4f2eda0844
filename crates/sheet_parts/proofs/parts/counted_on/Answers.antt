-- `counted_on` meets its contract. Assumes nothing.
use borrow.Author.Tests.{lt-ltb, le-ltb}
use Rattle.sheet_parts.specs.Parts.{counted_on}
use Rattle.sheet_parts.proofs.parts.counted_on.Goals as goal

pub returns-then-count-lt-MOST_LINES : goal.returns-then-count-lt-MOST_LINES
unfolding counted_on
returns-then-count-lt-MOST_LINES c = rw (lt-ltb _ _ c.if-count-lt-MOST_LINES.true)

pub returns-else-count-lt-MOST_LINES : goal.returns-else-count-lt-MOST_LINES
unfolding counted_on
returns-else-count-lt-MOST_LINES c = rw (le-ltb _ _ c.if-count-lt-MOST_LINES.false)
