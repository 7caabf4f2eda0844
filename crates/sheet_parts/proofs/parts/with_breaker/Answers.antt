-- `with_breaker` meets its contract. Assumes nothing.
use borrow.Author.Tests.{lt-ltb, le-ltb}
use Rattle.sheet_parts.specs.Parts.{breaker_taken}
use Rattle.sheet_parts.proofs.parts.with_breaker.Goals as goal

pub returns-then-n-lt-MOST_BREAKERS : goal.returns-then-n-lt-MOST_BREAKERS
unfolding breaker_taken
returns-then-n-lt-MOST_BREAKERS c = rw (lt-ltb _ _ c.if-n-lt-MOST_BREAKERS.true, c.counted_on.ensures)

pub returns-else-n-lt-MOST_BREAKERS : goal.returns-else-n-lt-MOST_BREAKERS
unfolding breaker_taken
returns-else-n-lt-MOST_BREAKERS c = rw (le-ltb _ _ c.if-n-lt-MOST_BREAKERS.false, c.counted_on.ensures)
