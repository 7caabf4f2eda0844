-- Worked examples of the definitions: they are believed, so a wrong clause need break no other proof. The bytes are those of document 01's example as a sheet, in examples/example.sheet.
use Prim.Native.Nat.{ℕ, ◌*◌, ◌/◌, ◌^◌, ◌<◌}
use mathlib.Core.Path.{◌≡◌, refl, sym, ◌∙◌, ap, subst}
use mathlib.Core.Bool.{cond}
use mathlib.Core.List.{[], ◌∷◌}
use native.Mathlib.Omega.{arith}
use lib.ListN.{replicate}
use lib.Ieee.{Float, nan, inf, fin, up, down, of_bits, of_int, round, is_nan, le, lt, eq, div}
use Rattle.float64.specs.Constants.{nought, decimal}
use Rattle.float64.specs.Choice.{max_of}
use Rattle.ranges.specs.Ranges.{real_in, whole_in}
use Rattle.grid.specs.Simulator.{blank_station, blank_cable, blank_breaker, kept_time_step, kept_duration}
use Rattle.grid.specs.declared.parts.ConverterTopology.TheVariants.{Lcc, Mmc}
use Rattle.grid.specs.declared.parts.DcBreakerType.TheVariants.{Mechanical, SolidState, HybridBreaker}
use Rattle.grid.specs.declared.parts.ConverterStation.{ConverterStation}
use Rattle.grid.specs.declared.parts.DcCable.{DcCable}
use Rattle.grid.specs.declared.parts.DcBreaker.{DcBreaker}
use Rattle.grid.specs.declared.parts.SweepOrder.{SweepOrder}
use Rattle.grid.specs.declared.simulator.DcSwitchingSimulator.{DcSwitchingSimulator}
use Rattle.part_checks.specs.PartChecks.{topology_ok, station_ok, cable_ok, breaker_type_ok, breaker_ok, order_ok}
use Rattle.timing.specs.Steps.{rounded_up, steps_of}
use Rattle.rules.specs.Studies.{broken, first, sweep_refusal}
use Rattle.rule_tests.specs.Rules.{too_many_parts, time_outside, too_many_steps, station_outside, cable_outside, breaker_outside}
use Rattle.field_columns.specs.Fields.{value_of}
use Rattle.printed_numbers.specs.Printed.{digits_of, printed_decimal}
use Rattle.field_columns.specs.declared.fields.Decimal.{Decimal}
use Rattle.whole_sheets.specs.Sheets.{sheet_answer}
use Rattle.printed_sheets.specs.Printing.{whole, printed_line, station_text, breaker_text, printed_sheet}
use Rattle.printed_sheets.specs.Claims.{Fits, Spelled, SpelledStation, SpelledCable, SpelledBreaker, SixPlaces, Made, BlankPast, ReadsBack}
use Rattle.printed_sheets.proofs.Whole.{whole_fits}
use Rattle.printed_sheets.proofs.Claims.{round_trip_claims}

-- the doubles of the example, spelled without places
abbrev spell : Float → Decimal
spell x = cond (eq x (decimal 1000 1)) (whole 1000) (cond (eq x (decimal 100 1)) (whole 100) (cond (eq x (decimal 1 1)) (whole 1) (whole 0)))

-- two 100 kV LCC stations, 0 MW
abbrev station : ConverterStation
station =
    record {
      id = 0;
      topology = Lcc;
      v_dc_rated_kv = decimal 100 1;
      p_rated_mw = nought;
      x_transformer_pu = nought;
      scr = nought;
      control_angle_deg = nought;
      x_commutation_pu = nought;
      arm_inductance_mh = nought;
      sm_capacitance_uf = nought;
    }

-- one cable 0 to 1 of 1 km and 1 Ω
abbrev cable : DcCable
cable = record { id = 0; from_station = 0; to_station = 1; r_per_km = decimal 1 1; l_per_km = nought; c_per_km = nought; length_km = decimal 1 1 }

-- a mechanical breaker of 0 ms at station 0
abbrev breaker : DcBreaker
breaker = record { id = 0; station_id = 0; breaker_type = Mechanical nought; max_breaking_current_ka = nought; energy_absorption_mj = nought }

-- dt 1000, duration 1
abbrev grid : DcSwitchingSimulator
grid =
    record {
      stations = station ∷ station ∷ replicate 30 blank_station;
      cables = cable ∷ replicate 63 blank_cable;
      breakers = breaker ∷ replicate 31 blank_breaker;
      n_stations = 2;
      n_cables = 1;
      n_breakers = 1;
      dt_us = decimal 1000 1;
      duration_ms = decimal 1 1;
    }

-- tenths 0 to 0, all other fields 0
abbrev order : SweepOrder
order = record { fault_resistance = nought; inception_time_ms = nought; low_tenth = 0; high_tenth = 0 }

example_text : printed_sheet spell grid order ≡
    84 ∷ 32 ∷ 32 ∷ 32 ∷ 32 ∷ 32 ∷ 32 ∷ 32 ∷ 32 ∷ 49 ∷ 48 ∷ 48 ∷ 48 ∷ 32 ∷ 32 ∷ 32 ∷ 32 ∷ 32 ∷ 32 ∷ 32 ∷ 32 ∷ 32 ∷ 32 ∷ 32 ∷ 49 ∷ 10 ∷
    79 ∷ 32 ∷ 32 ∷ 32 ∷ 32 ∷ 32 ∷ 32 ∷ 32 ∷ 32 ∷ 32 ∷ 32 ∷ 32 ∷ 48 ∷ 32 ∷ 32 ∷ 32 ∷ 32 ∷ 32 ∷ 32 ∷ 32 ∷ 32 ∷ 32 ∷ 32 ∷ 32 ∷ 48 ∷ 32 ∷ 32 ∷ 32 ∷ 32 ∷ 32 ∷ 32 ∷ 32 ∷ 32 ∷ 32 ∷ 32 ∷ 32 ∷ 48 ∷ 32 ∷ 32 ∷ 32 ∷ 32 ∷ 32 ∷ 32 ∷ 32 ∷ 32 ∷ 32 ∷ 32 ∷ 32 ∷ 48 ∷ 10 ∷
    83 ∷ 32 ∷ 32 ∷ 32 ∷ 32 ∷ 32 ∷ 32 ∷ 32 ∷ 32 ∷ 32 ∷ 32 ∷ 32 ∷ 48 ∷ 32 ∷ 32 ∷ 32 ∷ 32 ∷ 32 ∷ 32 ∷ 32 ∷ 32 ∷ 32 ∷ 32 ∷ 32 ∷ 48 ∷ 32 ∷ 32 ∷ 32 ∷ 32 ∷ 32 ∷ 32 ∷ 32 ∷ 32 ∷ 32 ∷ 32 ∷ 32 ∷ 48 ∷ 32 ∷ 32 ∷ 32 ∷ 32 ∷ 32 ∷ 32 ∷ 32 ∷ 32 ∷ 32 ∷ 49 ∷ 48 ∷ 48 ∷ 32 ∷ 32 ∷ 32 ∷ 32 ∷ 32 ∷ 32 ∷ 32 ∷ 32 ∷ 32 ∷ 32 ∷ 32 ∷ 48 ∷ 32 ∷ 32 ∷ 32 ∷ 32 ∷ 32 ∷ 32 ∷ 32 ∷ 32 ∷ 32 ∷ 32 ∷ 32 ∷ 48 ∷ 32 ∷ 32 ∷ 32 ∷ 32 ∷ 32 ∷ 32 ∷ 32 ∷ 32 ∷ 32 ∷ 32 ∷ 32 ∷ 48 ∷ 32 ∷ 32 ∷ 32 ∷ 32 ∷ 32 ∷ 32 ∷ 32 ∷ 32 ∷ 32 ∷ 32 ∷ 32 ∷ 48 ∷ 32 ∷ 32 ∷ 32 ∷ 32 ∷ 32 ∷ 32 ∷ 32 ∷ 32 ∷ 32 ∷ 32 ∷ 32 ∷ 48 ∷ 32 ∷ 32 ∷ 32 ∷ 32 ∷ 32 ∷ 32 ∷ 32 ∷ 32 ∷ 32 ∷ 32 ∷ 32 ∷ 48 ∷ 32 ∷ 32 ∷ 32 ∷ 32 ∷ 32 ∷ 32 ∷ 32 ∷ 32 ∷ 32 ∷ 32 ∷ 32 ∷ 48 ∷ 10 ∷
    83 ∷ 32 ∷ 32 ∷ 32 ∷ 32 ∷ 32 ∷ 32 ∷ 32 ∷ 32 ∷ 32 ∷ 32 ∷ 32 ∷ 48 ∷ 32 ∷ 32 ∷ 32 ∷ 32 ∷ 32 ∷ 32 ∷ 32 ∷ 32 ∷ 32 ∷ 32 ∷ 32 ∷ 48 ∷ 32 ∷ 32 ∷ 32 ∷ 32 ∷ 32 ∷ 32 ∷ 32 ∷ 32 ∷ 32 ∷ 32 ∷ 32 ∷ 48 ∷ 32 ∷ 32 ∷ 32 ∷ 32 ∷ 32 ∷ 32 ∷ 32 ∷ 32 ∷ 32 ∷ 49 ∷ 48 ∷ 48 ∷ 32 ∷ 32 ∷ 32 ∷ 32 ∷ 32 ∷ 32 ∷ 32 ∷ 32 ∷ 32 ∷ 32 ∷ 32 ∷ 48 ∷ 32 ∷ 32 ∷ 32 ∷ 32 ∷ 32 ∷ 32 ∷ 32 ∷ 32 ∷ 32 ∷ 32 ∷ 32 ∷ 48 ∷ 32 ∷ 32 ∷ 32 ∷ 32 ∷ 32 ∷ 32 ∷ 32 ∷ 32 ∷ 32 ∷ 32 ∷ 32 ∷ 48 ∷ 32 ∷ 32 ∷ 32 ∷ 32 ∷ 32 ∷ 32 ∷ 32 ∷ 32 ∷ 32 ∷ 32 ∷ 32 ∷ 48 ∷ 32 ∷ 32 ∷ 32 ∷ 32 ∷ 32 ∷ 32 ∷ 32 ∷ 32 ∷ 32 ∷ 32 ∷ 32 ∷ 48 ∷ 32 ∷ 32 ∷ 32 ∷ 32 ∷ 32 ∷ 32 ∷ 32 ∷ 32 ∷ 32 ∷ 32 ∷ 32 ∷ 48 ∷ 32 ∷ 32 ∷ 32 ∷ 32 ∷ 32 ∷ 32 ∷ 32 ∷ 32 ∷ 32 ∷ 32 ∷ 32 ∷ 48 ∷ 10 ∷
    67 ∷ 32 ∷ 32 ∷ 32 ∷ 32 ∷ 32 ∷ 32 ∷ 32 ∷ 32 ∷ 32 ∷ 32 ∷ 32 ∷ 48 ∷ 32 ∷ 32 ∷ 32 ∷ 32 ∷ 32 ∷ 32 ∷ 32 ∷ 32 ∷ 32 ∷ 32 ∷ 32 ∷ 48 ∷ 32 ∷ 32 ∷ 32 ∷ 32 ∷ 32 ∷ 32 ∷ 32 ∷ 32 ∷ 32 ∷ 32 ∷ 32 ∷ 49 ∷ 32 ∷ 32 ∷ 32 ∷ 32 ∷ 32 ∷ 32 ∷ 32 ∷ 32 ∷ 32 ∷ 32 ∷ 32 ∷ 49 ∷ 32 ∷ 32 ∷ 32 ∷ 32 ∷ 32 ∷ 32 ∷ 32 ∷ 32 ∷ 32 ∷ 32 ∷ 32 ∷ 48 ∷ 32 ∷ 32 ∷ 32 ∷ 32 ∷ 32 ∷ 32 ∷ 32 ∷ 32 ∷ 32 ∷ 32 ∷ 32 ∷ 48 ∷ 32 ∷ 32 ∷ 32 ∷ 32 ∷ 32 ∷ 32 ∷ 32 ∷ 32 ∷ 32 ∷ 32 ∷ 32 ∷ 49 ∷ 10 ∷
    66 ∷ 32 ∷ 32 ∷ 32 ∷ 32 ∷ 32 ∷ 32 ∷ 32 ∷ 32 ∷ 32 ∷ 32 ∷ 32 ∷ 48 ∷ 32 ∷ 32 ∷ 32 ∷ 32 ∷ 32 ∷ 32 ∷ 32 ∷ 32 ∷ 32 ∷ 32 ∷ 32 ∷ 48 ∷ 32 ∷ 32 ∷ 32 ∷ 32 ∷ 32 ∷ 32 ∷ 32 ∷ 32 ∷ 32 ∷ 32 ∷ 32 ∷ 48 ∷ 32 ∷ 32 ∷ 32 ∷ 32 ∷ 32 ∷ 32 ∷ 32 ∷ 32 ∷ 32 ∷ 32 ∷ 32 ∷ 48 ∷ 32 ∷ 32 ∷ 32 ∷ 32 ∷ 32 ∷ 32 ∷ 32 ∷ 32 ∷ 32 ∷ 32 ∷ 32 ∷ 48 ∷ 32 ∷ 32 ∷ 32 ∷ 32 ∷ 32 ∷ 32 ∷ 32 ∷ 32 ∷ 32 ∷ 32 ∷ 32 ∷ 48 ∷ 32 ∷ 32 ∷ 32 ∷ 32 ∷ 32 ∷ 32 ∷ 32 ∷ 32 ∷ 32 ∷ 32 ∷ 32 ∷ 48 ∷ 10 ∷
    []
unfolding printed_sheet printed_line printed_decimal digits_of eq round of_bits
example_text = refl

-- ---- other kinds, and numbers with a place

-- what stands before the point and one place behind it
abbrev in_tenths : Float → Decimal
in_tenths nan = whole 0
in_tenths (inf s) = whole 0
in_tenths (fin s m e) = record { digits = m * up e * 10 / down e; places = 1 }

abbrev mmc : ConverterStation
mmc =
    record {
      id = 7;
      topology = Mmc 40;
      v_dc_rated_kv = decimal 1005 10;
      p_rated_mw = decimal 2 1;
      x_transformer_pu = decimal 3 1;
      scr = decimal 4 1;
      control_angle_deg = decimal 5 1;
      x_commutation_pu = decimal 6 1;
      arm_inductance_mh = decimal 75 10;
      sm_capacitance_uf = decimal 8 1;
    }

abbrev solid : DcBreaker
solid = record { id = 3; station_id = 1; breaker_type = SolidState (decimal 500 1) (decimal 5 10); max_breaking_current_ka = decimal 16 1; energy_absorption_mj = decimal 9 1 }

abbrev hybrid : DcBreaker
hybrid = record { id = 3; station_id = 1; breaker_type = HybridBreaker (decimal 105 10) (decimal 2000 1); max_breaking_current_ka = decimal 16 1; energy_absorption_mj = decimal 9 1 }

lines_are
    : (station_text in_tenths mmc ≡ 83 ∷ 32 ∷ 32 ∷ 32 ∷ 32 ∷ 32 ∷ 32 ∷ 32 ∷ 32 ∷ 32 ∷ 32 ∷ 32 ∷ 50 ∷ 32 ∷ 32 ∷ 32 ∷ 32 ∷ 32 ∷ 32 ∷ 32 ∷ 32 ∷ 32 ∷ 32 ∷ 52 ∷ 48 ∷ 32 ∷ 32 ∷ 32 ∷ 32 ∷ 32 ∷ 32 ∷ 32 ∷ 32 ∷ 32 ∷ 32 ∷ 32 ∷ 55 ∷ 32 ∷ 32 ∷ 32 ∷ 32 ∷ 32 ∷ 32 ∷ 32 ∷ 49 ∷ 48 ∷ 48 ∷ 46 ∷ 53 ∷ 32 ∷ 32 ∷ 32 ∷ 32 ∷ 32 ∷ 32 ∷ 32 ∷ 32 ∷ 32 ∷ 50 ∷ 46 ∷ 48 ∷ 32 ∷ 32 ∷ 32 ∷ 32 ∷ 32 ∷ 32 ∷ 32 ∷ 32 ∷ 32 ∷ 51 ∷ 46 ∷ 48 ∷ 32 ∷ 32 ∷ 32 ∷ 32 ∷ 32 ∷ 32 ∷ 32 ∷ 32 ∷ 32 ∷ 52 ∷ 46 ∷ 48 ∷ 32 ∷ 32 ∷ 32 ∷ 32 ∷ 32 ∷ 32 ∷ 32 ∷ 32 ∷ 32 ∷ 53 ∷ 46 ∷ 48 ∷ 32 ∷ 32 ∷ 32 ∷ 32 ∷ 32 ∷ 32 ∷ 32 ∷ 32 ∷ 32 ∷ 54 ∷ 46 ∷ 48 ∷ 32 ∷ 32 ∷ 32 ∷ 32 ∷ 32 ∷ 32 ∷ 32 ∷ 32 ∷ 32 ∷ 55 ∷ 46 ∷ 53 ∷ 32 ∷ 32 ∷ 32 ∷ 32 ∷ 32 ∷ 32 ∷ 32 ∷ 32 ∷ 32 ∷ 56 ∷ 46 ∷ 48 ∷ 10 ∷ [])
    × (breaker_text in_tenths solid ≡ 66 ∷ 32 ∷ 32 ∷ 32 ∷ 32 ∷ 32 ∷ 32 ∷ 32 ∷ 32 ∷ 32 ∷ 32 ∷ 32 ∷ 51 ∷ 32 ∷ 32 ∷ 32 ∷ 32 ∷ 32 ∷ 32 ∷ 32 ∷ 32 ∷ 32 ∷ 32 ∷ 32 ∷ 49 ∷ 32 ∷ 32 ∷ 32 ∷ 32 ∷ 32 ∷ 32 ∷ 32 ∷ 32 ∷ 32 ∷ 32 ∷ 32 ∷ 49 ∷ 32 ∷ 32 ∷ 32 ∷ 32 ∷ 32 ∷ 32 ∷ 32 ∷ 53 ∷ 48 ∷ 48 ∷ 46 ∷ 48 ∷ 32 ∷ 32 ∷ 32 ∷ 32 ∷ 32 ∷ 32 ∷ 32 ∷ 32 ∷ 32 ∷ 48 ∷ 46 ∷ 53 ∷ 32 ∷ 32 ∷ 32 ∷ 32 ∷ 32 ∷ 32 ∷ 32 ∷ 32 ∷ 49 ∷ 54 ∷ 46 ∷ 48 ∷ 32 ∷ 32 ∷ 32 ∷ 32 ∷ 32 ∷ 32 ∷ 32 ∷ 32 ∷ 32 ∷ 57 ∷ 46 ∷ 48 ∷ 10 ∷ [])
    × (breaker_text in_tenths hybrid ≡ 66 ∷ 32 ∷ 32 ∷ 32 ∷ 32 ∷ 32 ∷ 32 ∷ 32 ∷ 32 ∷ 32 ∷ 32 ∷ 32 ∷ 51 ∷ 32 ∷ 32 ∷ 32 ∷ 32 ∷ 32 ∷ 32 ∷ 32 ∷ 32 ∷ 32 ∷ 32 ∷ 32 ∷ 49 ∷ 32 ∷ 32 ∷ 32 ∷ 32 ∷ 32 ∷ 32 ∷ 32 ∷ 32 ∷ 32 ∷ 32 ∷ 32 ∷ 50 ∷ 32 ∷ 32 ∷ 32 ∷ 32 ∷ 32 ∷ 32 ∷ 32 ∷ 32 ∷ 49 ∷ 48 ∷ 46 ∷ 53 ∷ 32 ∷ 32 ∷ 32 ∷ 32 ∷ 32 ∷ 32 ∷ 50 ∷ 48 ∷ 48 ∷ 48 ∷ 46 ∷ 48 ∷ 32 ∷ 32 ∷ 32 ∷ 32 ∷ 32 ∷ 32 ∷ 32 ∷ 32 ∷ 49 ∷ 54 ∷ 46 ∷ 48 ∷ 32 ∷ 32 ∷ 32 ∷ 32 ∷ 32 ∷ 32 ∷ 32 ∷ 32 ∷ 32 ∷ 57 ∷ 46 ∷ 48 ∷ 10 ∷ [])
unfolding printed_line printed_decimal digits_of round of_bits
lines_are = (refl, refl, refl)

-- ---- the claim speaks of the example: it is accepted, and its fields have no places

spelled : (x : Float) (n : ℕ) → spell x ≡ whole n → n < 10 ^ 12 → value_of (whole n) ≡ x → Spelled spell x
spelled x n e h v = record { fits = subst Fits (sym e) (whole_fits n h); value = ap value_of e ∙ v }

of_0 : Spelled spell nought
unfolding eq round of_bits
of_0 = spelled nought 0 refl (omega arith) refl

of_1 : Spelled spell (decimal 1 1)
unfolding eq round
of_1 = spelled (decimal 1 1) 1 refl (omega arith) refl

of_100 : Spelled spell (decimal 100 1)
unfolding eq round
of_100 = spelled (decimal 100 1) 100 refl (omega arith) refl

of_1000 : Spelled spell (decimal 1000 1)
unfolding eq round
of_1000 = spelled (decimal 1000 1) 1000 refl (omega arith) refl

station_spelled : SpelledStation spell station
station_spelled =
    record {
      v_dc_rated_kv = of_100;
      p_rated_mw = of_0;
      x_transformer_pu = of_0;
      scr = of_0;
      control_angle_deg = of_0;
      x_commutation_pu = of_0;
      arm_inductance_mh = of_0;
      sm_capacitance_uf = of_0;
    }

cable_spelled : SpelledCable spell cable
cable_spelled = record { r_per_km = of_1; l_per_km = of_0; c_per_km = of_0; length_km = of_1 }

breaker_spelled : SpelledBreaker spell breaker
breaker_spelled = record { breaker_type = of_0; max_breaking_current_ka = of_0; energy_absorption_mj = of_0 }

six_places_lem : SixPlaces spell grid order
six_places_lem =
    record {
      dt_us = of_1000;
      duration_ms = of_1;
      fault_resistance = of_0;
      inception_time_ms = of_0;
      stations = (station_spelled, (station_spelled, tt));
      cables = (cable_spelled, tt);
      breakers = (breaker_spelled, tt);
    }

made : Made grid
unfolding kept_time_step kept_duration real_in max_of is_nan le lt eq of_int of_bits round
made = record { stations = refl; cables = refl; breakers = refl; dt_us = refl; duration_ms = refl }

accepted : sweep_refusal grid order ≡ 0
unfolding sweep_refusal first broken too_many_parts time_outside too_many_steps station_outside cable_outside breaker_outside steps_of real_in whole_in topology_ok station_ok cable_ok breaker_type_ok breaker_ok order_ok le lt eq of_int of_bits round max_of is_nan div rounded_up
accepted = refl

example_back : ReadsBack spell grid order
example_back = round_trip_claims.round_trip spell grid order six_places_lem made accepted

blank_past : BlankPast grid
blank_past = record { stations = refl; cables = refl; breakers = refl }

whole_back : (sheet_answer (printed_sheet spell grid order)).grid ≡ grid
whole_back = example_back.whole_grid blank_past

-- a time step of 0.05 is no time that `new` keeps
raised : kept_time_step (decimal 5 100) ≡ decimal 1 10
unfolding kept_time_step real_in max_of is_nan le lt eq of_int of_bits round
raised = refl
