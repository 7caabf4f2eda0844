-- `run_passes` meets its contract. Assumes nothing.
use Rattle.flow_voltages.specs.Voltages.{passes}
use mathlib.Core.Path.{◌≡◌}
use Prim.Native.Nat.{◌-◌, ◌≤◌}
use Rattle.flow_voltages.proofs.voltages.run_passes.Given as goal

abbrev pub invariant-loop-passes : goal.invariant-loop-passes
invariant-loop-passes l =
    (l.passes ≤ 50) × (passes l.m.entries l.m.n.value l.rated l.wanted (50 - l.passes) l.passes l.v ≡ passes l.m.entries l.m.n.value l.rated l.wanted 50 0 l.rated)

abbrev pub decreases-loop-passes : goal.decreases-loop-passes
decreases-loop-passes l = 50 - l.passes
