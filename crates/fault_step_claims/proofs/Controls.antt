-- Worked examples of the definitions: they are believed, so a wrong clause need break no other proof. The answers are the published Rust's: those of the loop alone are its loop's with the functions of
-- the setting in the place of its RK4 step, its current and its decay, and those of a grid its own, with E and S for its `exp` and `sin`.
use Prim.Native.Nat.{ℕ}
use mathlib.Core.Path.{◌≡◌, refl}
use mathlib.Core.Bool.{Bool, true, false}
use mathlib.Core.List.{List, [], ◌∷◌, ◌++◌}
use lib.ListN.{take, replicate}
use lib.Ieee.{Float, binary64, of_bits, of_int, round, neg, add, sub, mul, div, lt, le, eq, is_nan, size}
use Rattle.lists.specs.Tables.{tab, blank, over, padded}
use Rattle.float64.specs.Constants.{nought, one, half, decimal}
use Rattle.float64.specs.Arithmetic.{◌⊕◌, ◌⊖◌, ◌⊗◌, of}
use Rattle.float64.specs.Choice.{max_of, min_of, abs_of, clamp_of}
use Rattle.square_root.specs.Root.{root_of, floor_root, nearest_root}
use Rattle.elementary.specs.Exponential.{E, terms, squared}
use Rattle.float64.specs.Whole.{whole_part}
use Rattle.elementary.specs.Wave.{S, series, reduced_angle}
use Rattle.grid.specs.declared.parts.ConverterTopology.{ConverterTopology}
use Rattle.grid.specs.declared.parts.ConverterTopology.TheVariants.{Lcc, TwoLevelVsc, Mmc}
use Rattle.grid.specs.declared.parts.ConverterStation.{ConverterStation}
use Rattle.grid.specs.declared.parts.DcCable.{DcCable}
use Rattle.grid.specs.declared.parts.DcBreaker.{DcBreaker}
use Rattle.grid.specs.declared.parts.DcBreakerType.TheVariants.{Mechanical, SolidState}
use Rattle.grid.specs.declared.parts.DcFaultType.TheVariants.{PoleToGround, ConverterInternal}
use Rattle.grid.specs.declared.parts.DcFaultEvent.{DcFaultEvent}
use Rattle.grid.specs.declared.simulator.DcSwitchingSimulator.{DcSwitchingSimulator}
use Rattle.breaker_times.specs.Breakers.{clearing_time_of, fastest_of}
use Rattle.network.specs.Capacitance.{own_capacitance, joined_capacitance}
use Rattle.network.specs.Network.{drain_of}
use Rattle.state_derivatives.specs.declared.state.DcTransientState.{DcTransientState}
use Rattle.state_derivatives.specs.Derivatives.{derivatives}
use Rattle.transient.specs.Rk4.{ahead, blended, rk4, raised, new_state, step_by}
use Rattle.fault_circuit.specs.Parameters.{parameters_at}
use Rattle.fault_circuit.specs.Circuit.{response_of, underdamped_response, overdamped_response, type_factor, circuit_at}
use Rattle.fault_current.specs.Current.{amperes_by, current_by, decayed_by}
use Rattle.fault_plan.specs.declared.variables.FaultVariables.{FaultVariables}
use Rattle.fault_plan.specs.Fault.{Setting, di_dt, dissipated, active_at, all_recovered, while_faulted, after_clearing, before_inception, body, setting_of, fault_body, before_loop, fault_after}
use Rattle.run_start.proofs.Samples.{double, state, stepped, station, cable, breaker, two}

-- ---- what a fault run's step is made of

-- in 0.1 ms from 3 kA to 1 kA; a time step of 0 counts as 1e-12
rises_are : (di_dt (decimal 1 10) one (decimal 3 1) ≡ double 0x4034000000000000) × (di_dt nought one (decimal 3 1) ≡ double 0x427d1a94a2000000) × (di_dt (decimal 3 10) (decimal 7 10) nought ≡ double 0x4002aaaaaaaaaaab)
unfolding double max_of abs_of is_nan lt of_bits round neg sub div
rises_are = (refl, refl, refl)

-- 2 kA through 12.5 Ω for 0.1 ms: 5 kJ
energies_are : (dissipated (decimal 1 10) (decimal 125 10) (decimal 2 1) ≡ double 0x3f747ae147ae147b) × (dissipated (decimal 3 10) (decimal 7 10) (decimal 13 10) ≡ double 0x3f37423be4b29c9f)
unfolding double of_bits round mul div
energies_are = (refl, refl)

-- ---- its loop: two stations of 100 and 200 kV and a cable, steps of 0.1 ms and a duration of 1 ms. The inception is exactly the time of step 3, which is not 0.3, and the breakers clear exactly at that of step 6.

variables : DcTransientState → (peak rise energy clearing recovery last : ℕ) → (cleared active : Bool) → FaultVariables
variables s peak rise energy clearing recovery last cleared active =
    record {
      state = s;
      peak_fault_ka = double peak;
      max_di_dt = double rise;
      energy_mj = double energy;
      fault_cleared = cleared;
      clearing_time_ms = double clearing;
      voltage_recovery_time_ms = double recovery;
      prev_fault_current_ka = double last;
      fault_active = active;
    }

run : Setting
run =
    record {
      stations = 2;
      rated = of (decimal 100 1 ∷ decimal 200 1 ∷ []);
      dt = decimal 1 10;
      duration = one;
      clear = double 0x3fd3333333333334;
      inception = double 0x3fd3333333333334;
      resistance = decimal 125 10;
      -- of this time, this current and no breakers nothing is taken on
      rk4 = stepped (decimal 99 1) (decimal 99 1) [];
      current = λ t. t ⊗ (one ⊖ t);
      left = λ i clearing t. i ⊖ (t ⊖ clearing);
    }

-- the variables after some steps
after1 : FaultVariables
after1 = variables (state 0x3fb999999999999a 0 0x4059000000000000 0x4069000000000000 0x3ff8000000000000 0 0 (true ∷ true ∷ [])) 0 0 0 0x3ff0000000000000 0x3ff0000000000000 0 false false

after2 : FaultVariables
after2 = variables (state 0x3fc999999999999a 0 0x4059000000000000 0x4069000000000000 0x3ff8000000000000 0 0 (true ∷ true ∷ [])) 0 0 0 0x3ff0000000000000 0x3ff0000000000000 0 false false

-- the fault's first step
after3 : FaultVariables
after3 =
    variables (state 0x3fd3333333333334 0x3fcae147ae147ae2 0x40585f3333333333 0x4068ff3333333333 0x3ff2000000000000 0x3fd0000000000000 0xbfe0000000000000 (true ∷ true ∷ []))
    0x3fcae147ae147ae2 0x4000cccccccccccd 0x3f0ce6c093d9663c 0x3ff0000000000000 0x3ff0000000000000 0x3fcae147ae147ae2 false true

-- at the peak of its current
after5 : FaultVariables
after5 =
    variables (state 0x3fe0000000000000 0x3fd0000000000000 0x40571d9999999999 0x4068fd9999999999 0x3fe4400000000000 0x3fe8000000000000 0xbff8000000000000 (true ∷ true ∷ []))
    0x3fd0000000000000 0x4000cccccccccccd 0x3f2ae70c1333b96c 0x3ff0000000000000 0x3ff0000000000000 0x3fd0000000000000 false true

-- cleared
after6 : FaultVariables
after6 =
    variables (state 0x3fe3333333333334 0x3fceb851eb851eb8 0x40567ccccccccccc 0x4068fccccccccccc 0x3fde600000000000 0x3ff0000000000000 0xc000000000000000 (replicate 32 false))
    0x3fd0000000000000 0x4000cccccccccccd 0x3f322b7baecd0786 0x3fe3333333333334 0x3ff0000000000000 0x3fceb851eb851eb8 true true

-- 89.95 kV had not recovered, and 199.9 kV is raised to 200
after7 : FaultVariables
after7 =
    variables (state 0x3fe6666666666667 0x3fc1eb851eb851ec 0x4056833333333332 0x4069000000000000 0x3fde600000000000 0x3ff0000000000000 0xc000000000000000 (replicate 32 false))
    0x3fd0000000000000 0x4000cccccccccccd 0x3f322b7baecd0786 0x3fe3333333333334 0x3ff0000000000000 0x3fceb851eb851eb8 true true

-- both have recovered
after8 : FaultVariables
after8 =
    variables (state 0x3fe999999999999a 0x3fa47ae147ae1480 0x4056899999999998 0x4069000000000000 0x3fde600000000000 0x3ff0000000000000 0xc000000000000000 (replicate 32 false))
    0x3fd0000000000000 0x4000cccccccccccd 0x3f322b7baecd0786 0x3fe3333333333334 0x3fe999999999999a 0x3fceb851eb851eb8 true true

-- and the time of recovery stays
after9 : FaultVariables
after9 =
    variables (state 0x3feccccccccccccd 0xbfaeb851eb851eb0 0x40568ffffffffffe 0x4069000000000000 0x3fde600000000000 0x3ff0000000000000 0xc000000000000000 (replicate 32 false))
    0x3fd0000000000000 0x4000cccccccccccd 0x3f322b7baecd0786 0x3fe3333333333334 0x3fe999999999999a 0x3fceb851eb851eb8 true true

steps_are
    : (body run 2 after1 ≡ after2)
    × (body run 3 after2 ≡ after3)
    × (body run 6 after5 ≡ after6)
    × (body run 7 after6 ≡ after7)
    × (body run 8 after7 ≡ after8)
    × (body run 9 after8 ≡ after9)
unfolding double state variables stepped run after1 after2 after3 after5 after6 after7 after8 after9 body while_faulted after_clearing before_inception tab blank over max_of min_of abs_of is_nan lt le eq of_bits of_int round neg add sub mul div
steps_are = (refl, refl, refl, refl, refl, refl)

-- cleared and never active, as only a run that is put together by hand can be: active from inception on
unseen : FaultVariables
unseen = variables after6.state 0 0 0 0 0 0 true false

unseen_is : ((body run 2 unseen).fault_active ≡ false) × ((body run 3 unseen).fault_active ≡ true)
unfolding double variables run unseen body after_clearing le of_bits of_int round mul
unseen_is = (refl, refl)

-- a fault that was active stays so; voltages at 90 percent have recovered, and one below keeps all back; the cable's current is none of them
tests-are
    : (active_at run nought after2 ≡ false)
    × (active_at run nought after3 ≡ true)
    × (all_recovered run (decimal 90 1 ∷ decimal 180 1 ∷ nought ∷ []) ≡ true)
    × (all_recovered run (decimal 90 1 ∷ decimal 179 1 ∷ nought ∷ []) ≡ false)
    × (all_recovered run (decimal 89 1 ∷ decimal 180 1 ∷ nought ∷ []) ≡ false)
unfolding double state variables run after2 after3 lt le eq of_bits round mul
tests-are = (refl, refl, refl, refl, refl)

-- ---- of a grid: steps of 10 µs, a duration of 0.05 ms

-- rated voltages, and zeros up to 96; breakers closed
before-is
    : ((before_loop two).state.y ≡ decimal 100 1 ∷ decimal 200 1 ∷ replicate 94 nought)
    × ((before_loop two).state.breaker_states ≡ true ∷ true ∷ replicate 30 false)
    × ((before_loop two).state.station_currents_ka ≡ replicate 32 nought)
    × ((before_loop two).clearing_time_ms ≡ decimal 5 100)
    × ((before_loop two).voltage_recovery_time_ms ≡ decimal 5 100)
    × ((before_loop two).fault_cleared ≡ false)
    × ((before_loop two).fault_active ≡ false)
unfolding station cable breaker two before_loop tab blank padded max_of is_nan lt eq of_bits of_int round
before-is = (refl, refl, refl, refl, refl, refl, refl)

-- an internal fault at the middle of the first cable, from 0.01 ms on
fault : DcFaultEvent
fault = record { fault_type = ConverterInternal; location_cable_id = 0; location_fraction = half; fault_resistance = decimal 10 1; inception_time_ms = decimal 1 100 }

-- what the loop has of them, beside what the runs below show
setting_is : (setting_of two fault).duration ≡ decimal 5 100
unfolding two max_of is_nan lt of_bits round
setting_is = refl

-- time, fault current, four voltages and cable currents and two station currents; peak, rise, energy, clearing and recovery
numbers : FaultVariables → List Float
numbers v =
    v.state.time_ms ∷ v.state.fault_current_ka ∷ (take 4 v.state.y ++ take 2 v.state.station_currents_ka
    ++ (v.peak_fault_ka ∷ v.max_di_dt ∷ v.energy_mj ∷ v.clearing_time_ms ∷ v.voltage_recovery_time_ms ∷ []))

-- after 4 steps: one before inception, two with the fault, the second of which clears it, and one after
run_is : numbers (fault_after two fault 4) ≡ double 0x3f9eb851eb851eb8 ∷ double 0x3f88eb4628c8fafb
    ∷ double 0x4052224037f97a3f ∷ double 0x4065549a285a3e02 ∷ double 0xbfd53ee79fbab906 ∷ double 0xbfcfde5b6f981588 ∷ double 0x3fe2970aabc361e5 ∷ double 0xbfd53ee79fbab906
    ∷ double 0x3f88f73f15555bd4 ∷ double 0x3ff3812948aaafbe ∷ double 0x3e512729ceb13e7f ∷ double 0x3f947ae147ae147b ∷ decimal 5 100 ∷ []
unfolding double numbers station cable breaker two fault fault_after before_loop fault_body body while_faulted after_clearing before_inception clearing_time_of fastest_of drain_of own_capacitance joined_capacitance derivatives ahead blended rk4 raised new_state step_by circuit_at parameters_at response_of underdamped_response overdamped_response type_factor current_by decayed_by amperes_by E terms squared S series reduced_angle whole_part root_of floor_root nearest_root size clamp_of tab blank over padded max_of min_of abs_of is_nan lt le eq of_bits of_int round neg add sub mul div
run_is = refl

-- A fault is cleared by the time since its inception: steps of 1 ms, inception at 0.8 ms, a breaker of 0.2 ms. 1 - 0.8 is less than 0.2 in doubles, so it is cleared at 2 ms; 0.2 + 0.8 is 1.
since : DcSwitchingSimulator
since =
    record {
      stations = station Lcc 0 100 0 0 ∷ station Lcc 1 100 0 0 ∷ [];
      cables = record { id = 0; from_station = 0; to_station = 1; r_per_km = one; l_per_km = nought; c_per_km = nought; length_km = one } ∷ [];
      breakers = record { id = 0; station_id = 0; breaker_type = Mechanical (decimal 2 10); max_breaking_current_ka = nought; energy_absorption_mj = nought } ∷ [];
      n_stations = 2;
      n_cables = 1;
      n_breakers = 1;
      dt_us = decimal 1000 1;
      duration_ms = decimal 4 1;
    }

at_0·8 : DcFaultEvent
at_0·8 = record { fault_type = PoleToGround; location_cable_id = 0; location_fraction = nought; fault_resistance = nought; inception_time_ms = decimal 8 10 }

cleared-since-inception
    : ((fault_after since at_0·8 2).fault_cleared ≡ false)
    × ((fault_after since at_0·8 2).fault_active ≡ true)
    × ((fault_after since at_0·8 3).fault_cleared ≡ true)
    × ((fault_after since at_0·8 4).clearing_time_ms ≡ decimal 2 1)
unfolding station since at_0·8 fault_after before_loop fault_body body while_faulted after_clearing before_inception clearing_time_of fastest_of max_of min_of is_nan lt le eq of_bits of_int round neg add sub mul div
cleared-since-inception = (refl, refl, refl, refl)
