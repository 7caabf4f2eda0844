-- Worked examples of the definitions: they are believed, so a wrong clause need break no other proof. The answers were worked out by another program in doubles. Assumes nothing.
use Prim.Native.Nat.{ℕ, ◌^◌}
use mathlib.Core.Path.{◌≡◌, refl}
use lib.Ieee.{Float, binary64, of_bits, of_int, round, neg, add, sub, mul, div, lt, is_nan}
use Rattle.float64.specs.Constants.{decimal}
use Rattle.float64.specs.Arithmetic.{◌⊗◌}
use Rattle.float64.specs.Choice.{max_of, abs_of}
use Rattle.elementary.specs.Exponential.{E, terms, squared}
use Rattle.fault_circuit.specs.declared.circuit.FaultCircuit.{FaultCircuit}
use Rattle.fault_circuit.specs.declared.circuit.Response.TheVariants.{Critical}
use Rattle.fault_circuit.specs.Constants.{ground_part}
use Rattle.fault_current.specs.Current.{amperes_by, current_by}
use Rattle.fault_sums.specs.declared.steps.Sums.{Sums}
use Rattle.fault_sums.specs.Sums.{no_sums, sums_from, sums_of, with_factor}

double : ℕ → Float
double n = of_bits binary64 n

sums : (peak energy current : Float) → Sums
sums peak energy current = record { peak_ka = peak; energy_mj = energy; current_ka = current }

-- 7/3, 7/4, 7/5 and 7/6 kA, with their squares for the heat: the first is the peak
falling : sums_from (λ k. decimal 7 k) (λ x. x ⊗ x) 3 no_sums 4 ≡ sums (double 0x4002aaaaaaaaaaab) (double 0x4027a7f6e5d4c3b3) (double 0x3ff2aaaaaaaaaaab)
unfolding double sums sums_from max_of is_nan lt of_bits round add mul
falling = refl

-- from 0.3 ms on, with a resistance of 1.1 Ω in the fault and 0.37 Ω on the way
critical : FaultCircuit
critical =
    record {
      response = Critical (decimal 1234567 10) (decimal 123 10);
      resistance_factor = decimal 9 10;
      type_factor = decimal 7 10;
      decay_tau_s = decimal 1 1;
      inception_time_ms = decimal 3 10;
      r_total_ohm = decimal 37 100;
      r_fault_ohm = decimal 11 10;
    }

before : Sums
before = sums (decimal 2 100) (decimal 3 (10 ^ 7)) (decimal 9 1)

-- steps 4, 5 and 6 of 0.1 ms: as the circuit is, and with the factor of a fault to ground
rising
    : (sums_of critical (decimal 1 10) 4 before 3 ≡ sums (double 0x3f97ce28edbff3bc) (double 0x3e9c6f4da5716cec) (double 0x3f97ce28edbff3bc))
    × (sums_of (with_factor critical ground_part) (decimal 1 10) 4 before 3 ≡ sums (decimal 2 100) (double 0x3e985e51b70c3e7e) (double 0x3f9100f8a9d24062))
unfolding critical before double sums sums_from current_by amperes_by E terms squared max_of abs_of is_nan lt of_bits of_int round neg add sub mul div
rising = (refl, refl)
