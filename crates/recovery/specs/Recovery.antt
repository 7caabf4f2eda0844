-- What the loop of 000's `simulate_fault` does with a voltage after clearing. Definitions only.
use Rattle.std.specs.Prelude.{cond, Float}
use Rattle.std.specs.Float.Ieee.{lt}
use Rattle.float64.specs.Constants.{milli}
use Rattle.float64.specs.Arithmetic.{◌⊕◌, ◌⊗◌}
use Rattle.float64.specs.Choice.{min_of}

-- "Recover voltages gradually": by 0.001 of the rated one in each step
abbrev pub recovering : (rated v : Float) → Float
recovering rated v = cond (lt v rated) (min_of (v ⊕ milli ⊗ rated) rated) v
