-- Peak, heat and last current of a fault over the steps in which it lasts. Definitions only.
use Rattle.std.specs.Prelude.{ℕ, zero, suc, Float}
use Rattle.float64.specs.Constants.{nought}
use Rattle.float64.specs.Arithmetic.{◌⊕◌}
use Rattle.float64.specs.Choice.{max_of}
use Rattle.run_start.specs.Start.{time_at}
use Rattle.fault_circuit.specs.declared.circuit.FaultCircuit.{FaultCircuit}
use Rattle.fault_current.specs.Current.{current_of}
use Rattle.fault_plan.specs.Fault.{dissipated}
use Rattle.fault_sums.specs.declared.steps.Sums.{Sums}

-- of no step
abbrev pub no_sums : Sums
no_sums = record { peak_ka = nought; energy_mj = nought; current_ka = nought }

-- one step more, of current i
abbrev pub sum_step : (heat : Float → Float) → Float → Sums → Sums
sum_step heat i s = record { peak_ka = max_of s.peak_ka i; energy_mj = s.energy_mj ⊕ heat i; current_ka = i }

-- n steps more, in order, from a number on
unfoldable pub sums_from : (current : ℕ → Float) → (heat : Float → Float) → ℕ → Sums → ℕ → Sums
sums_from current heat step s zero = s
sums_from current heat step s (suc n) = sums_from current heat (suc step) (sum_step heat (current step) s) n

-- of a fault's circuit: its currents at the steps' times, its heat
abbrev pub sums_of : FaultCircuit → (dt : Float) → ℕ → Sums → ℕ → Sums
sums_of c dt = sums_from (λ k. current_of c (time_at dt k)) (dissipated dt (c.r_fault_ohm ⊕ c.r_total_ohm))

-- the same circuit with the factor of another type of fault
abbrev pub with_factor : FaultCircuit → Float → FaultCircuit
with_factor c factor =
    record {
      response = c.response;
      resistance_factor = c.resistance_factor;
      type_factor = factor;
      decay_tau_s = c.decay_tau_s;
      inception_time_ms = c.inception_time_ms;
      r_total_ohm = c.r_total_ohm;
      r_fault_ohm = c.r_fault_ohm;
    }
