-- Worked examples of the definitions: they are believed, so a wrong clause need break no other proof. The lines were written by hand from document 01.9; the bits of the doubles were computed in Python.
use Rattle.std.proofs.Common.{Some, None}
use Prim.Native.Nat.{ℕ}
use mathlib.Core.Path.{◌≡◌, refl}
use mathlib.Core.Bool.{true, false}
use mathlib.Core.List.{[], ◌∷◌}
use lib.Ieee.{Float, binary64, of_bits, round, eq}
use Rattle.field_columns.specs.Fields.{field_of, whole_of, real_of}
use Rattle.grid.specs.declared.parts.ConverterStation.{ConverterStation}
use Rattle.grid.specs.declared.parts.ConverterTopology.{ConverterTopology}
use Rattle.grid.specs.declared.parts.ConverterTopology.TheVariants.{Lcc, TwoLevelVsc, Mmc}
use Rattle.grid.specs.declared.parts.DcBreakerType.TheVariants.{Mechanical, SolidState, HybridBreaker}
use Rattle.sheet_lines.specs.declared.line.SheetLine.TheVariants.{Times, Order, Station, Cable, Breaker}
use Rattle.sheet_lines.specs.Fields.{formed}
use Rattle.sheet_lines.specs.Lines.{topology_of, breaker_type_of, times_line, order_line, station_line, cable_line, breaker_line, line_of}

abbrev double : ℕ → Float
double bits = of_bits binary64 bits

-- T 10.1 100.3
times_are : line_of (84 ∷ 32 ∷ 32 ∷ 32 ∷ 32 ∷ 32 ∷ 32 ∷ 32 ∷ 32 ∷ 49 ∷ 48 ∷ 46 ∷ 49 ∷ 32 ∷ 32 ∷ 32 ∷ 32 ∷ 32 ∷ 32 ∷ 32 ∷ 49 ∷ 48 ∷ 48 ∷ 46 ∷ 51 ∷ 10 ∷ []) ≡ (Some (Times (double 4621875412584313651) (double 4636758401977889587)))
unfolding line_of times_line order_line station_line cable_line breaker_line topology_of breaker_type_of formed whole_of real_of field_of round of_bits eq
times_are = refl

-- O 0.7 2.1 3 7
order_is : line_of (79 ∷ 32 ∷ 32 ∷ 32 ∷ 32 ∷ 32 ∷ 32 ∷ 32 ∷ 32 ∷ 32 ∷ 48 ∷ 46 ∷ 55 ∷ 32 ∷ 32 ∷ 32 ∷ 32 ∷ 32 ∷ 32 ∷ 32 ∷ 32 ∷ 32 ∷ 50 ∷ 46 ∷ 49 ∷ 32 ∷ 32 ∷ 32 ∷ 32 ∷ 32 ∷ 32 ∷ 32 ∷ 32 ∷ 32 ∷ 32 ∷ 32 ∷ 51 ∷ 32 ∷ 32 ∷ 32 ∷ 32 ∷ 32 ∷ 32 ∷ 32 ∷ 32 ∷ 32 ∷ 32 ∷ 32 ∷ 55 ∷ 10 ∷ []) ≡ (Some (Order (record { fault_resistance = double 4604480259023595110; inception_time_ms = double 4611911198408756429; low_tenth = 3; high_tenth = 7 })))
unfolding line_of times_line order_line station_line cable_line breaker_line topology_of breaker_type_of formed whole_of real_of field_of round of_bits eq
order_is = refl

-- the station of the three S lines below
abbrev station : ConverterTopology → ConverterStation
station topology =
    record {
      id = 7;
      topology = topology;
      v_dc_rated_kv = double 4644338874944428442;
      p_rated_mw = double 4647507227651027763;
      x_transformer_pu = double 4599075939470750515;
      scr = double 4612586738352862003;
      control_angle_deg = double 4624915342332788736;
      x_commutation_pu = double 4588807732320345784;
      arm_inductance_mh = double 4632332207969114522;
      sm_capacitance_uf = double 4666723612271994470;
    }

-- S 2 123 7 320.1 500.2 0.3 2.4 15.5 0.06 50.7 10000.8
station_is : line_of (83 ∷ 32 ∷ 32 ∷ 32 ∷ 32 ∷ 32 ∷ 32 ∷ 32 ∷ 32 ∷ 32 ∷ 32 ∷ 32 ∷ 50 ∷ 32 ∷ 32 ∷ 32 ∷ 32 ∷ 32 ∷ 32 ∷ 32 ∷ 32 ∷ 32 ∷ 49 ∷ 50 ∷ 51 ∷ 32 ∷ 32 ∷ 32 ∷ 32 ∷ 32 ∷ 32 ∷ 32 ∷ 32 ∷ 32 ∷ 32 ∷ 32 ∷ 55 ∷ 32 ∷ 32 ∷ 32 ∷ 32 ∷ 32 ∷ 32 ∷ 32 ∷ 51 ∷ 50 ∷ 48 ∷ 46 ∷ 49 ∷ 32 ∷ 32 ∷ 32 ∷ 32 ∷ 32 ∷ 32 ∷ 32 ∷ 53 ∷ 48 ∷ 48 ∷ 46 ∷ 50 ∷ 32 ∷ 32 ∷ 32 ∷ 32 ∷ 32 ∷ 32 ∷ 32 ∷ 32 ∷ 32 ∷ 48 ∷ 46 ∷ 51 ∷ 32 ∷ 32 ∷ 32 ∷ 32 ∷ 32 ∷ 32 ∷ 32 ∷ 32 ∷ 32 ∷ 50 ∷ 46 ∷ 52 ∷ 32 ∷ 32 ∷ 32 ∷ 32 ∷ 32 ∷ 32 ∷ 32 ∷ 32 ∷ 49 ∷ 53 ∷ 46 ∷ 53 ∷ 32 ∷ 32 ∷ 32 ∷ 32 ∷ 32 ∷ 32 ∷ 32 ∷ 32 ∷ 48 ∷ 46 ∷ 48 ∷ 54 ∷ 32 ∷ 32 ∷ 32 ∷ 32 ∷ 32 ∷ 32 ∷ 32 ∷ 32 ∷ 53 ∷ 48 ∷ 46 ∷ 55 ∷ 32 ∷ 32 ∷ 32 ∷ 32 ∷ 32 ∷ 49 ∷ 48 ∷ 48 ∷ 48 ∷ 48 ∷ 46 ∷ 56 ∷ 10 ∷ []) ≡ (Some (Station
    (station (Mmc 123))
    true))
unfolding line_of times_line order_line station_line cable_line breaker_line topology_of breaker_type_of formed whole_of real_of field_of round of_bits eq
station_is = refl

-- the same with topology 4 and no submodules: not known
topology_beyond : line_of (83 ∷ 32 ∷ 32 ∷ 32 ∷ 32 ∷ 32 ∷ 32 ∷ 32 ∷ 32 ∷ 32 ∷ 32 ∷ 32 ∷ 52 ∷ 32 ∷ 32 ∷ 32 ∷ 32 ∷ 32 ∷ 32 ∷ 32 ∷ 32 ∷ 32 ∷ 32 ∷ 32 ∷ 48 ∷ 32 ∷ 32 ∷ 32 ∷ 32 ∷ 32 ∷ 32 ∷ 32 ∷ 32 ∷ 32 ∷ 32 ∷ 32 ∷ 55 ∷ 32 ∷ 32 ∷ 32 ∷ 32 ∷ 32 ∷ 32 ∷ 32 ∷ 51 ∷ 50 ∷ 48 ∷ 46 ∷ 49 ∷ 32 ∷ 32 ∷ 32 ∷ 32 ∷ 32 ∷ 32 ∷ 32 ∷ 53 ∷ 48 ∷ 48 ∷ 46 ∷ 50 ∷ 32 ∷ 32 ∷ 32 ∷ 32 ∷ 32 ∷ 32 ∷ 32 ∷ 32 ∷ 32 ∷ 48 ∷ 46 ∷ 51 ∷ 32 ∷ 32 ∷ 32 ∷ 32 ∷ 32 ∷ 32 ∷ 32 ∷ 32 ∷ 32 ∷ 50 ∷ 46 ∷ 52 ∷ 32 ∷ 32 ∷ 32 ∷ 32 ∷ 32 ∷ 32 ∷ 32 ∷ 32 ∷ 49 ∷ 53 ∷ 46 ∷ 53 ∷ 32 ∷ 32 ∷ 32 ∷ 32 ∷ 32 ∷ 32 ∷ 32 ∷ 32 ∷ 48 ∷ 46 ∷ 48 ∷ 54 ∷ 32 ∷ 32 ∷ 32 ∷ 32 ∷ 32 ∷ 32 ∷ 32 ∷ 32 ∷ 53 ∷ 48 ∷ 46 ∷ 55 ∷ 32 ∷ 32 ∷ 32 ∷ 32 ∷ 32 ∷ 49 ∷ 48 ∷ 48 ∷ 48 ∷ 48 ∷ 46 ∷ 56 ∷ 10 ∷ []) ≡ (Some (Station
    (station Lcc)
    false))
unfolding line_of times_line order_line station_line cable_line breaker_line topology_of breaker_type_of formed whole_of real_of field_of round of_bits eq
topology_beyond = refl

-- and with topology 1 and one submodule: not known
submodules_without : line_of (83 ∷ 32 ∷ 32 ∷ 32 ∷ 32 ∷ 32 ∷ 32 ∷ 32 ∷ 32 ∷ 32 ∷ 32 ∷ 32 ∷ 49 ∷ 32 ∷ 32 ∷ 32 ∷ 32 ∷ 32 ∷ 32 ∷ 32 ∷ 32 ∷ 32 ∷ 32 ∷ 32 ∷ 49 ∷ 32 ∷ 32 ∷ 32 ∷ 32 ∷ 32 ∷ 32 ∷ 32 ∷ 32 ∷ 32 ∷ 32 ∷ 32 ∷ 55 ∷ 32 ∷ 32 ∷ 32 ∷ 32 ∷ 32 ∷ 32 ∷ 32 ∷ 51 ∷ 50 ∷ 48 ∷ 46 ∷ 49 ∷ 32 ∷ 32 ∷ 32 ∷ 32 ∷ 32 ∷ 32 ∷ 32 ∷ 53 ∷ 48 ∷ 48 ∷ 46 ∷ 50 ∷ 32 ∷ 32 ∷ 32 ∷ 32 ∷ 32 ∷ 32 ∷ 32 ∷ 32 ∷ 32 ∷ 48 ∷ 46 ∷ 51 ∷ 32 ∷ 32 ∷ 32 ∷ 32 ∷ 32 ∷ 32 ∷ 32 ∷ 32 ∷ 32 ∷ 50 ∷ 46 ∷ 52 ∷ 32 ∷ 32 ∷ 32 ∷ 32 ∷ 32 ∷ 32 ∷ 32 ∷ 32 ∷ 49 ∷ 53 ∷ 46 ∷ 53 ∷ 32 ∷ 32 ∷ 32 ∷ 32 ∷ 32 ∷ 32 ∷ 32 ∷ 32 ∷ 48 ∷ 46 ∷ 48 ∷ 54 ∷ 32 ∷ 32 ∷ 32 ∷ 32 ∷ 32 ∷ 32 ∷ 32 ∷ 32 ∷ 53 ∷ 48 ∷ 46 ∷ 55 ∷ 32 ∷ 32 ∷ 32 ∷ 32 ∷ 32 ∷ 49 ∷ 48 ∷ 48 ∷ 48 ∷ 48 ∷ 46 ∷ 56 ∷ 10 ∷ []) ≡ (Some (Station
    (station TwoLevelVsc)
    false))
unfolding line_of times_line order_line station_line cable_line breaker_line topology_of breaker_type_of formed whole_of real_of field_of round of_bits eq
submodules_without = refl

-- C 9 1 4 0.011 0.0027 0.00019 123.4
cable_is : line_of (67 ∷ 32 ∷ 32 ∷ 32 ∷ 32 ∷ 32 ∷ 32 ∷ 32 ∷ 32 ∷ 32 ∷ 32 ∷ 32 ∷ 57 ∷ 32 ∷ 32 ∷ 32 ∷ 32 ∷ 32 ∷ 32 ∷ 32 ∷ 32 ∷ 32 ∷ 32 ∷ 32 ∷ 49 ∷ 32 ∷ 32 ∷ 32 ∷ 32 ∷ 32 ∷ 32 ∷ 32 ∷ 32 ∷ 32 ∷ 32 ∷ 32 ∷ 52 ∷ 32 ∷ 32 ∷ 32 ∷ 32 ∷ 32 ∷ 32 ∷ 32 ∷ 48 ∷ 46 ∷ 48 ∷ 49 ∷ 49 ∷ 32 ∷ 32 ∷ 32 ∷ 32 ∷ 32 ∷ 32 ∷ 48 ∷ 46 ∷ 48 ∷ 48 ∷ 50 ∷ 55 ∷ 32 ∷ 32 ∷ 32 ∷ 32 ∷ 32 ∷ 48 ∷ 46 ∷ 48 ∷ 48 ∷ 48 ∷ 49 ∷ 57 ∷ 32 ∷ 32 ∷ 32 ∷ 32 ∷ 32 ∷ 32 ∷ 32 ∷ 49 ∷ 50 ∷ 51 ∷ 46 ∷ 52 ∷ 10 ∷ []) ≡ (Some (Cable (record { id = 9; from_station = 1; to_station = 4; r_per_km = double 4577494690056391098; l_per_km = double 4568372198651189422; c_per_km = double 4551141786764840094; length_km = double 4638383919968393626 })))
unfolding line_of times_line order_line station_line cable_line breaker_line topology_of breaker_type_of formed whole_of real_of field_of round of_bits eq
cable_is = refl

-- B 5 3 1 500.3 0.2 16.1 20.9
solid_state_is : line_of (66 ∷ 32 ∷ 32 ∷ 32 ∷ 32 ∷ 32 ∷ 32 ∷ 32 ∷ 32 ∷ 32 ∷ 32 ∷ 32 ∷ 53 ∷ 32 ∷ 32 ∷ 32 ∷ 32 ∷ 32 ∷ 32 ∷ 32 ∷ 32 ∷ 32 ∷ 32 ∷ 32 ∷ 51 ∷ 32 ∷ 32 ∷ 32 ∷ 32 ∷ 32 ∷ 32 ∷ 32 ∷ 32 ∷ 32 ∷ 32 ∷ 32 ∷ 49 ∷ 32 ∷ 32 ∷ 32 ∷ 32 ∷ 32 ∷ 32 ∷ 32 ∷ 53 ∷ 48 ∷ 48 ∷ 46 ∷ 51 ∷ 32 ∷ 32 ∷ 32 ∷ 32 ∷ 32 ∷ 32 ∷ 32 ∷ 32 ∷ 32 ∷ 48 ∷ 46 ∷ 50 ∷ 32 ∷ 32 ∷ 32 ∷ 32 ∷ 32 ∷ 32 ∷ 32 ∷ 32 ∷ 49 ∷ 54 ∷ 46 ∷ 49 ∷ 32 ∷ 32 ∷ 32 ∷ 32 ∷ 32 ∷ 32 ∷ 32 ∷ 32 ∷ 50 ∷ 48 ∷ 46 ∷ 57 ∷ 10 ∷ []) ≡ (Some (Breaker
    (record { id = 5; station_id = 3; breaker_type = SolidState (double 4647508986869632205) (double 4596373779694328218); max_breaking_current_ka = double 4625224964807170458; energy_absorption_mj = double 4626576044695381606 })
    true))
unfolding line_of times_line order_line station_line cable_line breaker_line topology_of breaker_type_of formed whole_of real_of field_of round of_bits eq
solid_state_is = refl

-- B 5 3 0 2.3 0 16.1 20.9
mechanical_is : line_of (66 ∷ 32 ∷ 32 ∷ 32 ∷ 32 ∷ 32 ∷ 32 ∷ 32 ∷ 32 ∷ 32 ∷ 32 ∷ 32 ∷ 53 ∷ 32 ∷ 32 ∷ 32 ∷ 32 ∷ 32 ∷ 32 ∷ 32 ∷ 32 ∷ 32 ∷ 32 ∷ 32 ∷ 51 ∷ 32 ∷ 32 ∷ 32 ∷ 32 ∷ 32 ∷ 32 ∷ 32 ∷ 32 ∷ 32 ∷ 32 ∷ 32 ∷ 48 ∷ 32 ∷ 32 ∷ 32 ∷ 32 ∷ 32 ∷ 32 ∷ 32 ∷ 32 ∷ 32 ∷ 50 ∷ 46 ∷ 51 ∷ 32 ∷ 32 ∷ 32 ∷ 32 ∷ 32 ∷ 32 ∷ 32 ∷ 32 ∷ 32 ∷ 32 ∷ 32 ∷ 48 ∷ 32 ∷ 32 ∷ 32 ∷ 32 ∷ 32 ∷ 32 ∷ 32 ∷ 32 ∷ 49 ∷ 54 ∷ 46 ∷ 49 ∷ 32 ∷ 32 ∷ 32 ∷ 32 ∷ 32 ∷ 32 ∷ 32 ∷ 32 ∷ 50 ∷ 48 ∷ 46 ∷ 57 ∷ 10 ∷ []) ≡ (Some (Breaker
    (record { id = 5; station_id = 3; breaker_type = Mechanical (double 4612361558371493478); max_breaking_current_ka = double 4625224964807170458; energy_absorption_mj = double 4626576044695381606 })
    true))
unfolding line_of times_line order_line station_line cable_line breaker_line topology_of breaker_type_of formed whole_of real_of field_of round of_bits eq
mechanical_is = refl

-- B 5 3 2 2.3 300.1 16.1 20.9
hybrid_is : line_of (66 ∷ 32 ∷ 32 ∷ 32 ∷ 32 ∷ 32 ∷ 32 ∷ 32 ∷ 32 ∷ 32 ∷ 32 ∷ 32 ∷ 53 ∷ 32 ∷ 32 ∷ 32 ∷ 32 ∷ 32 ∷ 32 ∷ 32 ∷ 32 ∷ 32 ∷ 32 ∷ 32 ∷ 51 ∷ 32 ∷ 32 ∷ 32 ∷ 32 ∷ 32 ∷ 32 ∷ 32 ∷ 32 ∷ 32 ∷ 32 ∷ 32 ∷ 50 ∷ 32 ∷ 32 ∷ 32 ∷ 32 ∷ 32 ∷ 32 ∷ 32 ∷ 32 ∷ 32 ∷ 50 ∷ 46 ∷ 51 ∷ 32 ∷ 32 ∷ 32 ∷ 32 ∷ 32 ∷ 32 ∷ 32 ∷ 51 ∷ 48 ∷ 48 ∷ 46 ∷ 49 ∷ 32 ∷ 32 ∷ 32 ∷ 32 ∷ 32 ∷ 32 ∷ 32 ∷ 32 ∷ 49 ∷ 54 ∷ 46 ∷ 49 ∷ 32 ∷ 32 ∷ 32 ∷ 32 ∷ 32 ∷ 32 ∷ 32 ∷ 32 ∷ 50 ∷ 48 ∷ 46 ∷ 57 ∷ 10 ∷ []) ≡ (Some (Breaker
    (record { id = 5; station_id = 3; breaker_type = HybridBreaker (double 4612361558371493478) (double 4643987031223540122); max_breaking_current_ka = double 4625224964807170458; energy_absorption_mj = double 4626576044695381606 })
    true))
unfolding line_of times_line order_line station_line cable_line breaker_line topology_of breaker_type_of formed whole_of real_of field_of round of_bits eq
hybrid_is = refl

-- a mechanical one with a second number of 0.000001: not known
second_number_lem : line_of (66 ∷ 32 ∷ 32 ∷ 32 ∷ 32 ∷ 32 ∷ 32 ∷ 32 ∷ 32 ∷ 32 ∷ 32 ∷ 32 ∷ 53 ∷ 32 ∷ 32 ∷ 32 ∷ 32 ∷ 32 ∷ 32 ∷ 32 ∷ 32 ∷ 32 ∷ 32 ∷ 32 ∷ 51 ∷ 32 ∷ 32 ∷ 32 ∷ 32 ∷ 32 ∷ 32 ∷ 32 ∷ 32 ∷ 32 ∷ 32 ∷ 32 ∷ 48 ∷ 32 ∷ 32 ∷ 32 ∷ 32 ∷ 32 ∷ 32 ∷ 32 ∷ 32 ∷ 32 ∷ 50 ∷ 46 ∷ 51 ∷ 32 ∷ 32 ∷ 32 ∷ 32 ∷ 48 ∷ 46 ∷ 48 ∷ 48 ∷ 48 ∷ 48 ∷ 48 ∷ 49 ∷ 32 ∷ 32 ∷ 32 ∷ 32 ∷ 32 ∷ 32 ∷ 32 ∷ 32 ∷ 49 ∷ 54 ∷ 46 ∷ 49 ∷ 32 ∷ 32 ∷ 32 ∷ 32 ∷ 32 ∷ 32 ∷ 32 ∷ 32 ∷ 50 ∷ 48 ∷ 46 ∷ 57 ∷ 10 ∷ []) ≡ (Some (Breaker
    (record { id = 5; station_id = 3; breaker_type = Mechanical (double 4612361558371493478); max_breaking_current_ka = double 4625224964807170458; energy_absorption_mj = double 4626576044695381606 })
    false))
unfolding line_of times_line order_line station_line cable_line breaker_line topology_of breaker_type_of formed whole_of real_of field_of round of_bits eq
second_number_lem = refl

-- kind 3: not known
kind_beyond : line_of (66 ∷ 32 ∷ 32 ∷ 32 ∷ 32 ∷ 32 ∷ 32 ∷ 32 ∷ 32 ∷ 32 ∷ 32 ∷ 32 ∷ 53 ∷ 32 ∷ 32 ∷ 32 ∷ 32 ∷ 32 ∷ 32 ∷ 32 ∷ 32 ∷ 32 ∷ 32 ∷ 32 ∷ 51 ∷ 32 ∷ 32 ∷ 32 ∷ 32 ∷ 32 ∷ 32 ∷ 32 ∷ 32 ∷ 32 ∷ 32 ∷ 32 ∷ 51 ∷ 32 ∷ 32 ∷ 32 ∷ 32 ∷ 32 ∷ 32 ∷ 32 ∷ 32 ∷ 32 ∷ 50 ∷ 46 ∷ 51 ∷ 32 ∷ 32 ∷ 32 ∷ 32 ∷ 32 ∷ 32 ∷ 32 ∷ 32 ∷ 32 ∷ 32 ∷ 32 ∷ 48 ∷ 32 ∷ 32 ∷ 32 ∷ 32 ∷ 32 ∷ 32 ∷ 32 ∷ 32 ∷ 49 ∷ 54 ∷ 46 ∷ 49 ∷ 32 ∷ 32 ∷ 32 ∷ 32 ∷ 32 ∷ 32 ∷ 32 ∷ 32 ∷ 50 ∷ 48 ∷ 46 ∷ 57 ∷ 10 ∷ []) ≡ (Some (Breaker
    (record { id = 5; station_id = 3; breaker_type = Mechanical (double 4612361558371493478); max_breaking_current_ka = double 4625224964807170458; energy_absorption_mj = double 4626576044695381606 })
    false))
unfolding line_of times_line order_line station_line cable_line breaker_line topology_of breaker_type_of formed whole_of real_of field_of round of_bits eq
kind_beyond = refl

-- the letter t, T with one field, T with three fields, T without its line feed, T with a carriage return, O with a point in its last field, a line feed alone, and S, C and B with a point in their third field, which is a whole number
wrong_are : (line_of (116 ∷ 32 ∷ 32 ∷ 32 ∷ 32 ∷ 32 ∷ 32 ∷ 32 ∷ 32 ∷ 49 ∷ 48 ∷ 46 ∷ 49 ∷ 32 ∷ 32 ∷ 32 ∷ 32 ∷ 32 ∷ 32 ∷ 32 ∷ 49 ∷ 48 ∷ 48 ∷ 46 ∷ 51 ∷ 10 ∷ []) ≡ None) × (line_of (84 ∷ 32 ∷ 32 ∷ 32 ∷ 32 ∷ 32 ∷ 32 ∷ 32 ∷ 32 ∷ 49 ∷ 48 ∷ 46 ∷ 49 ∷ 10 ∷ []) ≡ None) × (line_of (84 ∷ 32 ∷ 32 ∷ 32 ∷ 32 ∷ 32 ∷ 32 ∷ 32 ∷ 32 ∷ 49 ∷ 48 ∷ 46 ∷ 49 ∷ 32 ∷ 32 ∷ 32 ∷ 32 ∷ 32 ∷ 32 ∷ 32 ∷ 32 ∷ 32 ∷ 32 ∷ 32 ∷ 49 ∷ 32 ∷ 32 ∷ 32 ∷ 32 ∷ 32 ∷ 32 ∷ 32 ∷ 32 ∷ 32 ∷ 32 ∷ 32 ∷ 50 ∷ 10 ∷ []) ≡ None) × (line_of (84 ∷ 32 ∷ 32 ∷ 32 ∷ 32 ∷ 32 ∷ 32 ∷ 32 ∷ 32 ∷ 49 ∷ 48 ∷ 46 ∷ 49 ∷ 32 ∷ 32 ∷ 32 ∷ 32 ∷ 32 ∷ 32 ∷ 32 ∷ 49 ∷ 48 ∷ 48 ∷ 46 ∷ 51 ∷ []) ≡ None) × (line_of (84 ∷ 32 ∷ 32 ∷ 32 ∷ 32 ∷ 32 ∷ 32 ∷ 32 ∷ 32 ∷ 49 ∷ 48 ∷ 46 ∷ 49 ∷ 32 ∷ 32 ∷ 32 ∷ 32 ∷ 32 ∷ 32 ∷ 32 ∷ 49 ∷ 48 ∷ 48 ∷ 46 ∷ 51 ∷ 13 ∷ 10 ∷ []) ≡ None) × (line_of (79 ∷ 32 ∷ 32 ∷ 32 ∷ 32 ∷ 32 ∷ 32 ∷ 32 ∷ 32 ∷ 32 ∷ 48 ∷ 46 ∷ 55 ∷ 32 ∷ 32 ∷ 32 ∷ 32 ∷ 32 ∷ 32 ∷ 32 ∷ 32 ∷ 32 ∷ 50 ∷ 46 ∷ 49 ∷ 32 ∷ 32 ∷ 32 ∷ 32 ∷ 32 ∷ 32 ∷ 32 ∷ 32 ∷ 32 ∷ 32 ∷ 32 ∷ 51 ∷ 32 ∷ 32 ∷ 32 ∷ 32 ∷ 32 ∷ 32 ∷ 32 ∷ 32 ∷ 32 ∷ 55 ∷ 46 ∷ 48 ∷ 10 ∷ []) ≡ None) × (line_of (10 ∷ []) ≡ None) × (line_of (83 ∷ 32 ∷ 32 ∷ 32 ∷ 32 ∷ 32 ∷ 32 ∷ 32 ∷ 32 ∷ 32 ∷ 32 ∷ 32 ∷ 50 ∷ 32 ∷ 32 ∷ 32 ∷ 32 ∷ 32 ∷ 32 ∷ 32 ∷ 32 ∷ 32 ∷ 49 ∷ 50 ∷ 51 ∷ 32 ∷ 32 ∷ 32 ∷ 32 ∷ 32 ∷ 32 ∷ 32 ∷ 32 ∷ 32 ∷ 55 ∷ 46 ∷ 48 ∷ 32 ∷ 32 ∷ 32 ∷ 32 ∷ 32 ∷ 32 ∷ 32 ∷ 51 ∷ 50 ∷ 48 ∷ 46 ∷ 49 ∷ 32 ∷ 32 ∷ 32 ∷ 32 ∷ 32 ∷ 32 ∷ 32 ∷ 53 ∷ 48 ∷ 48 ∷ 46 ∷ 50 ∷ 32 ∷ 32 ∷ 32 ∷ 32 ∷ 32 ∷ 32 ∷ 32 ∷ 32 ∷ 32 ∷ 48 ∷ 46 ∷ 51 ∷ 32 ∷ 32 ∷ 32 ∷ 32 ∷ 32 ∷ 32 ∷ 32 ∷ 32 ∷ 32 ∷ 50 ∷ 46 ∷ 52 ∷ 32 ∷ 32 ∷ 32 ∷ 32 ∷ 32 ∷ 32 ∷ 32 ∷ 32 ∷ 49 ∷ 53 ∷ 46 ∷ 53 ∷ 32 ∷ 32 ∷ 32 ∷ 32 ∷ 32 ∷ 32 ∷ 32 ∷ 32 ∷ 48 ∷ 46 ∷ 48 ∷ 54 ∷ 32 ∷ 32 ∷ 32 ∷ 32 ∷ 32 ∷ 32 ∷ 32 ∷ 32 ∷ 53 ∷ 48 ∷ 46 ∷ 55 ∷ 32 ∷ 32 ∷ 32 ∷ 32 ∷ 32 ∷ 49 ∷ 48 ∷ 48 ∷ 48 ∷ 48 ∷ 46 ∷ 56 ∷ 10 ∷ []) ≡ None) × (line_of (67 ∷ 32 ∷ 32 ∷ 32 ∷ 32 ∷ 32 ∷ 32 ∷ 32 ∷ 32 ∷ 32 ∷ 32 ∷ 32 ∷ 57 ∷ 32 ∷ 32 ∷ 32 ∷ 32 ∷ 32 ∷ 32 ∷ 32 ∷ 32 ∷ 32 ∷ 32 ∷ 32 ∷ 49 ∷ 32 ∷ 32 ∷ 32 ∷ 32 ∷ 32 ∷ 32 ∷ 32 ∷ 32 ∷ 32 ∷ 52 ∷ 46 ∷ 48 ∷ 32 ∷ 32 ∷ 32 ∷ 32 ∷ 32 ∷ 32 ∷ 32 ∷ 48 ∷ 46 ∷ 48 ∷ 49 ∷ 49 ∷ 32 ∷ 32 ∷ 32 ∷ 32 ∷ 32 ∷ 32 ∷ 48 ∷ 46 ∷ 48 ∷ 48 ∷ 50 ∷ 55 ∷ 32 ∷ 32 ∷ 32 ∷ 32 ∷ 32 ∷ 48 ∷ 46 ∷ 48 ∷ 48 ∷ 48 ∷ 49 ∷ 57 ∷ 32 ∷ 32 ∷ 32 ∷ 32 ∷ 32 ∷ 32 ∷ 32 ∷ 49 ∷ 50 ∷ 51 ∷ 46 ∷ 52 ∷ 10 ∷ []) ≡ None) × (line_of (66 ∷ 32 ∷ 32 ∷ 32 ∷ 32 ∷ 32 ∷ 32 ∷ 32 ∷ 32 ∷ 32 ∷ 32 ∷ 32 ∷ 53 ∷ 32 ∷ 32 ∷ 32 ∷ 32 ∷ 32 ∷ 32 ∷ 32 ∷ 32 ∷ 32 ∷ 32 ∷ 32 ∷ 51 ∷ 32 ∷ 32 ∷ 32 ∷ 32 ∷ 32 ∷ 32 ∷ 32 ∷ 32 ∷ 32 ∷ 49 ∷ 46 ∷ 48 ∷ 32 ∷ 32 ∷ 32 ∷ 32 ∷ 32 ∷ 32 ∷ 32 ∷ 53 ∷ 48 ∷ 48 ∷ 46 ∷ 51 ∷ 32 ∷ 32 ∷ 32 ∷ 32 ∷ 32 ∷ 32 ∷ 32 ∷ 32 ∷ 32 ∷ 48 ∷ 46 ∷ 50 ∷ 32 ∷ 32 ∷ 32 ∷ 32 ∷ 32 ∷ 32 ∷ 32 ∷ 32 ∷ 49 ∷ 54 ∷ 46 ∷ 49 ∷ 32 ∷ 32 ∷ 32 ∷ 32 ∷ 32 ∷ 32 ∷ 32 ∷ 32 ∷ 50 ∷ 48 ∷ 46 ∷ 57 ∷ 10 ∷ []) ≡ None)
unfolding line_of times_line order_line station_line cable_line breaker_line topology_of breaker_type_of formed whole_of real_of field_of round of_bits eq
wrong_are = (refl, refl, refl, refl, refl, refl, refl, refl, refl, refl)
