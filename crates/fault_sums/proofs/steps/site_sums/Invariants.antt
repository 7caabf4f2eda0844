-- `site_sums` meets its contract: the steps that are left lead from the sums of each type to where all of them lead. Assumes nothing.
use Rattle.fault_circuit.specs.declared.circuit.FaultCircuit.{FaultCircuit}
use Rattle.fault_circuit.specs.Constants.{ground_part, internal_part}
use Rattle.float64.specs.Constants.{one}
use Rattle.fault_sums.specs.declared.steps.Sums.{Sums}
use Rattle.fault_sums.specs.Sums.{no_sums, sums_of, with_factor}
use lib.Ieee.{Float}
use Prim.Native.Nat.{ℕ, ◌-◌}
use mathlib.Core.Path.{◌≡◌}
use Rattle.fault_sums.proofs.steps.site_sums.Given as goal

-- the steps that are left, of a type of this factor
abbrev pub Leads : FaultCircuit → (factor dt : Float) → (first end at : ℕ) → Sums → Type 0
Leads c factor dt first end at s = sums_of (with_factor c factor) dt at s (end - at) ≡ sums_of (with_factor c factor) dt first no_sums (end - first)

abbrev pub invariant-loop-at : goal.invariant-loop-at
invariant-loop-at l =
    Leads l.circuit ground_part l.dt_ms l.first l.end l.at l.s.to_ground × Leads l.circuit one l.dt_ms l.first l.end l.at l.s.pole × Leads l.circuit internal_part l.dt_ms l.first l.end l.at l.s.internal

abbrev pub decreases-loop-at : goal.decreases-loop-at
decreases-loop-at l = l.end - l.at
