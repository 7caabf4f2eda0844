-- Worked examples of the definition: it is believed, so a wrong clause need break no other proof. The answers were computed in Python's doubles, with E and S for `exp` and `sin`.
use mathlib.Core.Path.{◌≡◌, refl}
use Prim.Native.Nat.{ℕ}
use lib.Ieee.{Float, binary64, of_bits, of_int, round, neg, add, sub, mul, div, lt, is_nan}
use Rattle.float64.specs.Constants.{one, decimal}
use Rattle.float64.specs.Choice.{max_of, abs_of, clamp_of}
use Rattle.float64.specs.Whole.{whole_part}
use Rattle.elementary.specs.Exponential.{E, terms, squared}
use Rattle.elementary.specs.Wave.{S, series, reduced_angle}
use Rattle.fault_circuit.specs.declared.circuit.FaultCircuit.{FaultCircuit}
use Rattle.fault_circuit.specs.declared.circuit.Response.{Response}
use Rattle.fault_circuit.specs.declared.circuit.Response.TheVariants.{Underdamped, Overdamped, Critical, Still}
use Rattle.fault_current.specs.Current.{amperes_by}
use Rattle.fault_currents.specs.Sites.{site_current}

double : ℕ → Float
double n = of_bits binary64 n

-- a resistance factor of 0.3, a type factor of 0.7, from 1.1 ms on
circuit : Response → FaultCircuit
circuit r = record { response = r; resistance_factor = decimal 3 10; type_factor = decimal 7 10; decay_tau_s = one; inception_time_ms = decimal 11 10; r_total_ohm = one; r_fault_ohm = one }

-- at 0.5 ms, before the inception, and at 3.7 and 9.1 ms
Sites : Response → (before first second : ℕ) → Type 0
Sites r before first second =
    (site_current (circuit r) (decimal 5 10) ≡ double before)
    × (site_current (circuit r) (decimal 37 10) ≡ double first)
    × (site_current (circuit r) (decimal 91 10) ≡ double second)

under_is : Sites (Underdamped (double 0x40b907ff06a90b47) (double 0x4003cd4e930288df) (double 0x407ee6e87c4faba0)) 0 0x3ffd53703867339b 0x3ff5ebd4eb9e3cba
unfolding Sites circuit double amperes_by E terms squared S series reduced_angle whole_part clamp_of max_of abs_of is_nan lt of_bits of_int round neg add sub mul div
under_is = (refl, refl, refl)

over_is : Sites (Overdamped (double 0x4084694f30763743) (double 0xc048f154e9e763c0) (double 0xc0b3249c11bcaae2)) 0 0x3fc607ca0d094b99 0x3fc0d3fa964b466d
unfolding Sites circuit double amperes_by E terms squared max_of abs_of is_nan lt of_bits of_int round neg add sub mul div
over_is = (refl, refl, refl)

critical_is : Sites (Critical (decimal 320000 1) (decimal 1000 1)) 0 0x3f92fbce193e9356 0x3f30e2672e20e367
unfolding Sites circuit double amperes_by E terms squared max_of abs_of is_nan lt of_bits of_int round neg add sub mul div
critical_is = (refl, refl, refl)

still_is : Sites Still 0 0 0
unfolding Sites circuit double amperes_by max_of abs_of is_nan lt of_bits of_int round neg add sub mul div
still_is = (refl, refl, refl)
