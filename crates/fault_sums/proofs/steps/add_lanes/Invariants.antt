-- `add_lanes` meets its contract: folding what is left completes the fold of all. Assumes nothing.
use Rattle.fault_sums.specs.Blocks.{lanes_from}
use Rattle.float64.specs.Arithmetic.{of}
use Prim.Native.Nat.{◌-◌}
use mathlib.Core.Path.{◌≡◌}
use Rattle.fault_sums.proofs.steps.add_lanes.Given as goal

abbrev pub invariant-loop-lane : goal.invariant-loop-lane
invariant-loop-lane l = lanes_from (of l.i) (of l.heat) l.lane l.s (l.lane-end - l.lane) ≡ lanes_from (of l.i) (of l.heat) 0 l.initial.s l.lane-end
