-- `largest_mismatch` meets its contract. Assumes nothing.
use Rattle.flow_voltages.specs.Balance.{largest}
use mathlib.Core.Path.{◌≡◌}
use lib.ListN.{length}
use Prim.Native.Nat.{◌-◌, ◌≤◌}
use Rattle.flow_voltages.proofs.balance.largest_mismatch.Given as goal

abbrev pub invariant-loop-i : goal.invariant-loop-i
invariant-loop-i l = (l.i - 1 ≤ length l.d - 1) × (l.most ≡ largest l.d (l.i - 1))
