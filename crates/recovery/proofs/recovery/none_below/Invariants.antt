-- `none_below` meets its contract. Assumes nothing.
use Rattle.lists.specs.Scans.{some}
use Rattle.float64.specs.Arithmetic.{of}
use lib.Ieee.{Float, lt}
use Prim.Native.Nat.{ℕ}
use mathlib.Core.Bool.{Bool, false, not}
use mathlib.Core.List.{List}
use mathlib.Core.Path.{◌≡◌}
use Rattle.recovery.proofs.recovery.none_below.Given as goal

-- a voltage is below its rated one, as `each` asks it
abbrev pub below : List Float → List Float → ℕ → Bool
below y rated i = not (not (lt (of y i) (of rated i)))

abbrev pub invariant-loop-i : goal.invariant-loop-i
invariant-loop-i l = some l.i (below l.y l.rated) ≡ false
