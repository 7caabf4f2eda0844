-- `decayed_current_ka` meets its contract. Assumes nothing.
use Rattle.fault_current.specs.Current.{decayed_by}
use Rattle.fault_current.proofs.current.decayed_current_ka.Goals as goal

pub returns-then-decayed : goal.returns-then-decayed
unfolding decayed_by
returns-then-decayed c = rw (← c.seconds_since-t.ensures, ← c.exp.ensures, c.if-decayed.true)

pub returns : goal.returns
unfolding decayed_by
returns c = rw (← c.seconds_since-t.ensures, ← c.exp.ensures, c.if-decayed.false)
