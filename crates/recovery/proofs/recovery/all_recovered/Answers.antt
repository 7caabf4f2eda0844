-- `all_recovered` meets its contract. Assumes nothing.
use Rattle.lists.proofs.Scanning.{some_found}
use mathlib.Core.Bool.{not}
use mathlib.Core.Path.{sym, ap, ◌∙◌}
use Rattle.recovery.proofs.recovery.all_recovered.Invariants.{behind}
use Rattle.recovery.proofs.recovery.all_recovered.Goals as goal

pub returns-then-not-has_recovered : goal.returns-then-not-has_recovered
returns-then-not-has_recovered c =
    rw (← c.of-n.ensures) (ap not (sym (some_found (behind c.args.y.now c.args.rated.now) c.of-n.result.value c.loop-i.i c.loop-i-test.true (ap not (sym c.has_recovered.ensures ∙ c.if-not-has_recovered.true)))))
