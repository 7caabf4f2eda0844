-- `some_voltage_low` meets its contract. Assumes nothing.
use Rattle.detection.specs.Detection.{low}
use Rattle.float64.specs.Arithmetic.{of}
use Rattle.lists.specs.Scans.{some}
use mathlib.Core.Bool.{false}
use mathlib.Core.Path.{◌≡◌}
use Rattle.detection.proofs.detect.some_voltage_low.Given as goal

abbrev pub invariant-loop-i : goal.invariant-loop-i
invariant-loop-i l = some l.i (λ k. low (of l.y k) (of l.rated_kv k)) ≡ false
