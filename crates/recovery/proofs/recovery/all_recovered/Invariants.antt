-- `all_recovered` meets its contract. Assumes nothing.
use Rattle.lists.specs.Scans.{some}
use Rattle.float64.specs.Arithmetic.{of, ◌⊗◌}
use Rattle.recovery.specs.Constants.{recovered_part}
use lib.Ieee.{Float, le}
use Prim.Native.Nat.{ℕ}
use mathlib.Core.Bool.{Bool, false, not}
use mathlib.Core.List.{List}
use mathlib.Core.Path.{◌≡◌}
use Rattle.recovery.proofs.recovery.all_recovered.Given as goal

-- a voltage has not recovered
abbrev pub behind : List Float → List Float → ℕ → Bool
behind y rated i = not (le (recovered_part ⊗ of rated i) (of y i))

abbrev pub invariant-loop-i : goal.invariant-loop-i
invariant-loop-i l = some l.i (behind l.y l.rated) ≡ false
