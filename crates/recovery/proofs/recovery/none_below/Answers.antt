-- `none_below` meets its contract. Assumes nothing.
use Rattle.lists.proofs.Scanning.{some_found}
use mathlib.Core.Bool.{Bool, not}
use mathlib.Core.Path.{sym, ap}
use Rattle.recovery.proofs.recovery.none_below.Invariants.{below}
use Rattle.recovery.proofs.recovery.none_below.Goals as goal

pub returns-then-y-i : goal.returns-then-y-i
returns-then-y-i c =
    rw (← c.of-n.ensures) (ap not (sym (some_found (below c.args.y.now c.args.rated.now) c.of-n.result.value c.loop-i.i c.loop-i-test.true (ap (λ (b : Bool). not (not b)) c.if-y-i.true))))
