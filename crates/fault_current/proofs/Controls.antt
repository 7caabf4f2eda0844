-- Worked examples of the definitions: they are believed, so a wrong clause need break no other proof. The answers are the published Rust's, with E and S for its `exp` and `sin`.
use mathlib.Core.Path.{◌≡◌, refl}
use mathlib.Core.List.{List, [], ◌∷◌}
use Prim.Native.Nat.{ℕ, ◌^◌}
use lib.Ieee.{Float, binary64, of_bits, of_int, round, neg, add, sub, mul, div, lt, is_nan, size}
use Rattle.float64.specs.Constants.{nought, one, decimal}
use Rattle.float64.specs.Choice.{max_of, abs_of, clamp_of}
use Rattle.square_root.specs.Root.{root_of, floor_root, nearest_root}
use Rattle.elementary.specs.Exponential.{E, terms, squared}
use Rattle.float64.specs.Whole.{whole_part}
use Rattle.elementary.specs.Wave.{S, series, reduced_angle}
use Rattle.grid.specs.declared.parts.ConverterTopology.TheVariants.{Lcc}
use Rattle.grid.specs.declared.parts.ConverterStation.{ConverterStation}
use Rattle.grid.specs.declared.parts.DcFaultType.{DcFaultType}
use Rattle.grid.specs.declared.parts.DcFaultType.TheVariants.{PoleToGround, PoleToPole, ConverterInternal}
use Rattle.grid.specs.declared.parts.DcFaultEvent.{DcFaultEvent}
use Rattle.grid.specs.declared.simulator.DcSwitchingSimulator.{DcSwitchingSimulator}
use Rattle.fault_circuit.specs.declared.parameters.RlcParameters.{RlcParameters}
use Rattle.fault_circuit.specs.declared.circuit.FaultCircuit.{FaultCircuit}
use Rattle.fault_circuit.specs.declared.circuit.Response.TheVariants.{Underdamped, Overdamped, Critical, Still}
use Rattle.fault_circuit.specs.Parameters.{parameters_at, parameters_of}
use Rattle.fault_circuit.specs.Circuit.{response_of, underdamped_response, overdamped_response, type_factor, circuit_at, circuit_of}
use Rattle.fault_current.specs.Current.{amperes_by, current_by, current_of, decayed_by, decayed_of}

double : ℕ → Float
double n = of_bits binary64 n

-- 320 kV, with an arm's inductance in mH and a capacitance in tenths of 1 µF
station : (arm capacitance : ℕ) → ConverterStation
station arm capacitance =
    record {
      id = 0;
      topology = Lcc;
      v_dc_rated_kv = decimal 320 1;
      p_rated_mw = nought;
      x_transformer_pu = nought;
      scr = nought;
      control_angle_deg = nought;
      x_commutation_pu = nought;
      arm_inductance_mh = decimal arm 1;
      sm_capacitance_uf = decimal capacitance 10;
    }

-- 100 km from the first station to the second, with hundredths of 1 Ω/km and of 1 mH/km, and tenths of 1 µF/km
grid : List ConverterStation → (r l c : ℕ) → DcSwitchingSimulator
grid stations r l c =
    record {
      stations = stations;
      cables = record { id = 0; from_station = 0; to_station = 1; r_per_km = decimal r 100; l_per_km = decimal l 100; c_per_km = decimal c 10; length_km = decimal 100 1 } ∷ [];
      breakers = [];
      n_stations = 2;
      n_cables = 1;
      n_breakers = 0;
      dt_us = nought;
      duration_ms = nought;
    }

-- from 1 ms on. The cable's number is past the count.
fault : DcFaultType → (tenths ohms : ℕ) → DcFaultEvent
fault type tenths ohms = record { fault_type = type; location_cable_id = 7; location_fraction = decimal tenths 10; fault_resistance = decimal ohms 1; inception_time_ms = one }

-- the currents at 1, 3 and 20 ms, and of the last, cleared then, what is left at 21 and 31 ms
Runs : FaultCircuit → (at1 at3 at20 at21 at31 : ℕ) → Type 0
Runs c at1 at3 at20 at21 at31 =
    (current_of c one ≡ double at1)
    × (current_of c (decimal 3 1) ≡ double at3)
    × (current_of c (decimal 20 1) ≡ double at20)
    × (decayed_of c (double at20) (decimal 20 1) (decimal 21 1) ≡ double at21)
    × (decayed_of c (double at20) (decimal 20 1) (decimal 31 1) ≡ double at31)

under : FaultCircuit
under = circuit_of (grid (station 50 100 ∷ station 7 105 ∷ []) 1 100 2) (fault PoleToGround 5 2)

under_is : (under.response ≡ Underdamped (double 0x40b907ff06a90b47) (double 0x4003cd4e930288df) (double 0x407ee6e87c4faba0)) × Runs under 0 0x3fe10bba53a095d3 0x3f9323401e86837a 0x3f930b0e82f2b5f2 0x3f921f97f7d83c0f
unfolding under Runs grid station fault double circuit_at parameters_at response_of underdamped_response overdamped_response type_factor current_by decayed_by amperes_by E terms squared S series reduced_angle whole_part root_of floor_root nearest_root size clamp_of max_of abs_of is_nan lt of_bits of_int round neg add sub mul div
under_is = (refl, (refl, refl, refl, refl, refl))

-- the same with 1000 times the resistance, and all of the current gone after 11 ms
over : FaultCircuit
over = circuit_of (grid (station 50 100 ∷ station 7 105 ∷ []) 1000 100 2) (fault ConverterInternal 5 2)

over_is : (over.response ≡ Overdamped (double 0x4084694f30763743) (double 0xc048f154e9e763c0) (double 0xc0b3249c11bcaae2)) × Runs over 0 0x3fda60451afd0f93 0x3fc697a6cf38b6a0 0x3f54794e02ff3f83 0
unfolding over Runs grid station fault double circuit_at parameters_at response_of underdamped_response overdamped_response type_factor current_by decayed_by amperes_by E terms squared S series reduced_angle whole_part root_of floor_root nearest_root size clamp_of max_of abs_of is_nan lt of_bits of_int round neg add sub mul div
over_is = (refl, (refl, refl, refl, refl, refl))

-- 1 H, 1 µF and 2000 Ω
critical : FaultCircuit
critical = circuit_of (grid (station 999 5 ∷ station 7 5 ∷ []) 2000 0 0) (fault PoleToPole 10 0)

critical_is : (critical.response ≡ Critical (decimal 320000 1) (decimal 1000 1)) × Runs critical 0 0x3fb62c5f89eae514 0x3e6249dbb7b1102e 0 0
unfolding critical Runs grid station fault double circuit_at parameters_at response_of underdamped_response overdamped_response type_factor current_by decayed_by amperes_by E terms squared S series reduced_angle whole_part root_of floor_root nearest_root size clamp_of max_of abs_of is_nan lt of_bits of_int round neg add sub mul div
critical_is = (refl, (refl, refl, refl, refl, refl))

-- 320 kV, with mH, µF and Ω
parameters : (l c r : Float) → RlcParameters
parameters l c r = record { l_total_mh = l; c_total_uf = c; r_total_ohm = r; r_fault_ohm = nought; v_dc_kv = decimal 320 1 }

-- 1 H, 1 F and the double after 2 Ω: the roots are 4.2e-8 apart, and two. 500 ms after inception a single one would give 97.044906 kA, and not 97.044726 kA.
nearly_critical : FaultCircuit
nearly_critical = circuit_at (parameters (decimal 1000 1) (decimal (10 ^ 6) 1) (double 0x4000000000000001)) PoleToPole one

nearly-critical-is
    : (nearly_critical.response ≡ Overdamped (double 0x429b9f115b8120fe) (double 0xbfeffffff4afb0cf) (double 0xbff0000005a8279b))
    × (current_of nearly_critical (decimal 501 1) ≡ double 0x405842dccaa4f45c)
unfolding nearly_critical parameters double circuit_at response_of underdamped_response overdamped_response type_factor current_by amperes_by E terms squared root_of floor_root nearest_root size max_of abs_of is_nan lt of_bits of_int round neg add sub mul div
nearly-critical-is = (refl, refl)

-- beside 1e-12, with 1024 H and 2 ^ 20 F, which no accepted grid has: of the double after 0.0625 Ω the roots are 1.29e-12 apart, and two; of the second double after 2 ^ 20 F they are 0.91e-12 apart, and one
beside-least-is
    : (response_of (parameters (decimal 1024000 1) (double 0x426e848000000000) (double 0x3fb0000000000001)) ≡ Overdamped (double 0x42eb9f115b8120fe) (double 0xbefffffff4afb0cf) (double 0xbf00000005a8279b))
    × (response_of (parameters (decimal 1024000 1) (double 0x426e848000000002) (decimal 625 10000)) ≡ Critical (decimal 3125 10) (double 0x3f00000000000000))
unfolding parameters double response_of underdamped_response overdamped_response root_of floor_root nearest_root size max_of abs_of is_nan lt of_bits round neg add sub mul div
beside-least-is = (refl, refl)

-- 10 ^ 12 H and 10 ^ 13 F, which no accepted grid has
still_is : response_of (parameters (decimal (10 ^ 15) 1) (decimal (10 ^ 19) 1) (decimal 1 100)) ≡ Still
unfolding parameters response_of underdamped_response overdamped_response root_of floor_root nearest_root size max_of abs_of is_nan lt of_bits round neg add sub mul div
still_is = refl

-- 10 ^ 10 H and 10 ^ 10 F, which no accepted grid has either: a frequency of 1e-10, and not none
slow : FaultCircuit
slow = circuit_at (parameters (decimal (10 ^ 13) 1) (decimal (10 ^ 16) 1) (decimal 1 100)) PoleToPole one

slow_is : current_of slow (decimal (10 ^ 12) 1) ≡ double 0x403fee44037782fa
unfolding slow parameters double circuit_at response_of underdamped_response overdamped_response type_factor current_by amperes_by E terms squared S series reduced_angle whole_part root_of floor_root nearest_root size clamp_of max_of abs_of is_nan lt of_bits of_int round neg add sub mul div
slow_is = refl

-- 1 mH and 10 ^ 7 Ω: a time constant of 1e-10 s counts as 1e-9. Of 3 kA that are cleared at 2 ms, what is left a nanosecond later.
short : FaultCircuit
short = circuit_at (parameters one (decimal 1 100) (decimal (10 ^ 7) 1)) PoleToPole one

short_is : decayed_of short (decimal 3 1) (decimal 2 1) (decimal 2000001 (10 ^ 6)) ≡ double 0x3ff1a880a8971a3a
unfolding short parameters double circuit_at decayed_by E terms squared max_of is_nan lt of_bits of_int round neg add sub mul div
short_is = refl

-- a fraction of 1.5, which no study accepts, counts as 1
past_the_end_is : parameters_of (grid (station 50 100 ∷ station 0 0 ∷ []) 1 100 2) (fault PoleToPole 15 0) ≡ parameters (decimal 151 1) (decimal 30 1) one
unfolding grid station fault parameters parameters_at clamp_of max_of is_nan lt of_bits of_int round add mul div
past_the_end_is = refl
