-- `fault_sums` meets its contract: the steps that are left lead from the sums to where all of them lead. Assumes nothing.
use Rattle.fault_sums.specs.Sums.{sums_of}
use Prim.Native.Nat.{◌-◌}
use mathlib.Core.Path.{◌≡◌}
use Rattle.fault_sums.proofs.steps.fault_sums.Given as goal

abbrev pub invariant-loop-step : goal.invariant-loop-step
invariant-loop-step l = sums_of l.circuit l.dt_ms l.step l.s (l.end - l.step) ≡ sums_of l.circuit l.dt_ms l.first l.initial.s (l.end - l.first)

abbrev pub decreases-loop-step : goal.decreases-loop-step
decreases-loop-step l = l.end - l.step
