-- Worked examples of what a case leads to and of the listing, which are believed too. The answers are document 01's, and what the numbers of the same run in the examples of fault_step lead to.
use Prim.Native.Nat.{ℕ}
use mathlib.Core.Path.{◌≡◌, refl}
use mathlib.Core.Bool.{true, false}
use mathlib.Core.List.{List, [], ◌∷◌}
use lib.Ieee.{of_bits, to_bits, of_int, round, neg, add, sub, mul, div, lt, le, eq, is_nan, size}
use Rattle.lists.specs.Tables.{tab, blank, over, padded}
use Rattle.float64.specs.Constants.{nought, one, half, decimal}
use Rattle.float64.specs.Choice.{max_of, min_of, abs_of, clamp_of}
use Rattle.float64.specs.Pattern.{bits_of}
use Rattle.float64.specs.Whole.{whole_part}
use Rattle.square_root.specs.Root.{root_of, floor_root, nearest_root}
use Rattle.elementary.specs.Exponential.{E, terms, squared}
use Rattle.elementary.specs.Wave.{S, series, reduced_angle}
use Rattle.grid.specs.declared.parts.ConverterTopology.TheVariants.{Lcc}
use Rattle.grid.specs.declared.parts.DcBreakerType.TheVariants.{Mechanical}
use Rattle.grid.specs.declared.parts.DcFaultType.TheVariants.{ConverterInternal}
use Rattle.grid.specs.declared.parts.DcFaultEvent.{DcFaultEvent}
use Rattle.grid.specs.declared.parts.SweepOrder.{SweepOrder}
use Rattle.grid.specs.declared.simulator.DcSwitchingSimulator.{DcSwitchingSimulator}
use Rattle.timing.specs.Steps.{steps_of, rounded_up}
use Rattle.breaker_times.specs.Breakers.{clearing_time_of, fastest_of}
use Rattle.network.specs.Capacitance.{own_capacitance, joined_capacitance}
use Rattle.network.specs.Network.{drain_of}
use Rattle.state_derivatives.specs.Derivatives.{derivatives}
use Rattle.transient.specs.Rk4.{ahead, blended, rk4, raised, new_state, step_by}
use Rattle.detection.specs.Detection.{detected}
use Rattle.fault_circuit.specs.Parameters.{parameters_at}
use Rattle.fault_circuit.specs.Circuit.{response_of, underdamped_response, overdamped_response, type_factor, circuit_at}
use Rattle.fault_current.specs.Current.{amperes_by, current_by, decayed_by}
use Rattle.fault_plan.specs.Fault.{while_faulted, after_clearing, before_inception, body, fault_body, before_loop, fault_after}
use Rattle.power_flow.specs.declared.flow.DcGridSolution.{DcGridSolution}
use Rattle.run_start.proofs.Samples.{double, station, cable, breaker, two}
use Rattle.fault_cases.specs.Cases.{cases_of, fault_in}
use Rattle.case_reasons.specs.Reasons.{reasons_of, row_of}
use Rattle.case_listing.specs.Listing.{counts, clears_in, some_detected, clearing_current, outcome_after, row_for, case_row, listing}

-- ---- 01's example of the program `sweep`: three cases of one step, which clears the fault, and which reason 8 does not count

grid : DcSwitchingSimulator
grid =
    record {
      stations = station Lcc 0 100 0 0 ∷ station Lcc 1 100 0 0 ∷ [];
      cables = record { id = 0; from_station = 0; to_station = 1; r_per_km = one; l_per_km = nought; c_per_km = nought; length_km = one } ∷ [];
      breakers = record { id = 0; station_id = 0; breaker_type = Mechanical nought; max_breaking_current_ka = nought; energy_absorption_mj = nought } ∷ [];
      n_stations = 2;
      n_cables = 1;
      n_breakers = 1;
      dt_us = decimal 1000 1;
      duration_ms = one;
    }

order : SweepOrder
order = record { fault_resistance = nought; inception_time_ms = nought; low_tenth = 0; high_tenth = 0 }

flow : DcGridSolution
flow = record { operating_points = []; cable_losses_mw = nought ∷ []; total_losses_mw = nought; converged = true; iterations = 1 }

row : (type : ℕ) → List ℕ
row type = 0 ∷ type ∷ 0 ∷ 8 ∷ 0 ∷ 0 ∷ 0 ∷ 0 ∷ []

listing_is : (cases_of grid order ≡ 3) × (listing grid order flow 3 ≡ row 0 ∷ row 1 ∷ row 2 ∷ [])
unfolding grid order flow row station listing case_row row_for row_of reasons_of outcome_after some_detected clearing_current fault_in steps_of rounded_up bits_of to_bits fault_after before_loop fault_body body while_faulted after_clearing before_inception clearing_time_of fastest_of circuit_at parameters_at response_of underdamped_response overdamped_response type_factor current_by decayed_by amperes_by E terms squared S series reduced_angle whole_part root_of floor_root nearest_root size clamp_of tab blank over padded max_of min_of abs_of is_nan lt le eq of_bits of_int round neg add sub mul div
listing_is = (refl, refl)

-- ---- a run of four steps of 10 µs: one before inception, two with the fault, the second of which clears it, and one after

fault : DcFaultEvent
fault = record { fault_type = ConverterInternal; location_cable_id = 0; location_fraction = half; fault_resistance = decimal 10 1; inception_time_ms = decimal 1 100 }

-- the clearing step is counted, and the one after it is not
counted-are
    : (counts two fault 0 ≡ false)
    × (counts two fault 1 ≡ true)
    × (counts two fault 2 ≡ true)
    × (counts two fault 3 ≡ false)
    × (clears_in two fault 1 ≡ false)
    × (clears_in two fault 2 ≡ true)
    × (clears_in two fault 3 ≡ false)
unfolding double station cable breaker two fault fault_after before_loop fault_body body while_faulted after_clearing before_inception clearing_time_of fastest_of max_of min_of is_nan lt le eq of_bits of_int round neg add sub mul div
counted-are = (refl, refl, refl, refl, refl, refl, refl)

-- its current is kept though that of the next step is lower; before it there is none
current_is
    : (clearing_current two fault 2 ≡ nought)
    × (clearing_current two fault 3 ≡ double 0x3f88f73f15555bd4)
    × (clearing_current two fault 4 ≡ double 0x3f88f73f15555bd4)
unfolding double station cable breaker two fault clearing_current fault_after before_loop fault_body body while_faulted after_clearing before_inception clearing_time_of fastest_of circuit_at parameters_at response_of underdamped_response overdamped_response type_factor current_by decayed_by amperes_by E terms squared S series reduced_angle whole_part root_of floor_root nearest_root size clamp_of tab blank over padded max_of min_of abs_of is_nan lt le eq of_bits of_int round neg add sub mul div
current_is = (refl, refl, refl)

-- the first voltage is below 80 percent of rated by the clearing step, and rated before inception
detected_are : (some_detected two fault 1 ≡ false) × (some_detected two fault 3 ≡ true)
unfolding double station cable breaker two fault some_detected detected fault_after before_loop fault_body body while_faulted after_clearing before_inception clearing_time_of fastest_of drain_of own_capacitance joined_capacitance derivatives ahead blended rk4 raised new_state step_by circuit_at parameters_at response_of underdamped_response overdamped_response type_factor current_by decayed_by amperes_by E terms squared S series reduced_angle whole_part root_of floor_root nearest_root size clamp_of tab blank over padded max_of min_of abs_of is_nan lt le eq of_bits of_int round neg add sub mul div
detected_are = (refl, refl)
