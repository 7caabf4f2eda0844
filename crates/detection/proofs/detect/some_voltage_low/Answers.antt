-- `some_voltage_low` meets its contract. Assumes nothing.
use Rattle.detection.specs.Detection.{low}
use Rattle.float64.specs.Arithmetic.{of}
use Rattle.lists.proofs.Scanning.{some_found}
use mathlib.Core.Path.{sym, ◌∙◌}
use Rattle.detection.proofs.detect.some_voltage_low.Goals as goal

pub returns-then-is_low : goal.returns-then-is_low
returns-then-is_low c =
    sym (some_found (λ k. low (of c.args.y.now k) (of c.args.rated_kv.now k)) c.args.n.value c.loop-i.i c.loop-i-test.true (sym c.is_low.ensures ∙ c.if-is_low.true))
