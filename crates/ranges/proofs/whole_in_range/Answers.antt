-- `whole_in_range` meets its contract. Assumes nothing.
use borrow.Author.Tests.{lt-ltb, le-ltb}
use Rattle.ranges.specs.Ranges.{whole_between}
use Rattle.ranges.proofs.whole_in_range.Goals as goal

pub returns-then-n-ge9007199254740992 : goal.returns-then-n-ge9007199254740992
unfolding whole_between
returns-then-n-ge9007199254740992 c = rw (le-ltb _ _ c.if-n-ge9007199254740992.true)

pub returns : goal.returns
unfolding whole_between
returns c = rw (lt-ltb _ _ c.if-n-ge9007199254740992.false) c.in_range.ensures
