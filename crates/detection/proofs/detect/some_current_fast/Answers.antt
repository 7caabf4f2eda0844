-- `some_current_fast` meets its contract. Assumes nothing.
use Rattle.detection.specs.Detection.{fast_cable}
use Rattle.lists.proofs.Scanning.{some_found}
use mathlib.Core.Path.{sym, ◌∙◌}
use Rattle.detection.proofs.detect.some_current_fast.Goals as goal

pub returns-then-is_fast : goal.returns-then-is_fast
returns-then-is_fast c =
    sym (some_found (fast_cable c.args.n.value c.args.dt_ms c.args.y.now c.args.before.now) c.args.m.value c.loop-k.k c.loop-k-test.true (sym c.is_fast.ensures ∙ c.if-is_fast.true))
