-- `some_current_fast` meets its contract. Assumes nothing.
use Rattle.detection.specs.Detection.{fast_cable}
use Rattle.lists.specs.Scans.{some}
use mathlib.Core.Bool.{false}
use mathlib.Core.Path.{◌≡◌}
use Rattle.detection.proofs.detect.some_current_fast.Given as goal

abbrev pub invariant-loop-k : goal.invariant-loop-k
invariant-loop-k l = some l.k (fast_cable l.n.value l.dt_ms l.y l.before) ≡ false
