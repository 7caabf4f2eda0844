-- Worked examples of the definitions: they are believed, so a wrong clause need break no other proof. The answers were written by hand from document 01.
-- Of each part the first is accepted, every field at the high end of its range; then each field in turn is one past it.
use mathlib.Core.Path.{◌≡◌, refl}
use mathlib.Core.Bool.{Bool, true, false}
use mathlib.Core.List.{List, [], ◌∷◌, map}
use Prim.Native.Nat.{ℕ}
use lib.ListN.{replicate}
use lib.Ieee.{of_bits, of_int, round, lt, le, eq}
use Rattle.float64.specs.Constants.{decimal}
use Rattle.ranges.specs.Ranges.{real_in, whole_in}
use Rattle.grid.specs.Simulator.{blank_station}
use Rattle.part_checks.specs.PartChecks.{topology_ok, station_ok, cable_ok, breaker_type_ok, breaker_ok, fault_ok, order_ok}
use Rattle.grid.specs.declared.parts.ConverterTopology.TheVariants.{Lcc, TwoLevelVsc, Mmc, Hybrid}
use Rattle.grid.specs.declared.parts.DcBreakerType.TheVariants.{Mechanical, SolidState, HybridBreaker}
use Rattle.grid.specs.declared.parts.DcBreakerType.{DcBreakerType}
use Rattle.grid.specs.declared.parts.DcFaultType.TheVariants.{PoleToGround}
use Rattle.grid.specs.declared.parts.ConverterStation.{ConverterStation}
use Rattle.grid.specs.declared.parts.DcCable.{DcCable}
use Rattle.grid.specs.declared.parts.DcBreaker.{DcBreaker}
use Rattle.grid.specs.declared.parts.DcFaultEvent.{DcFaultEvent}
use Rattle.grid.specs.declared.parts.SweepOrder.{SweepOrder}

-- the first is accepted and n more are not
abbrev first_alone : ℕ → List Bool
first_alone n = true ∷ replicate n false

abbrev station : (id submodules kv mw x scr angle xc arm sm : ℕ) → ConverterStation
station id n kv mw x scr angle xc arm sm =
    record {
      id = id;
      topology = Mmc n;
      v_dc_rated_kv = decimal kv 1;
      p_rated_mw = decimal mw 1;
      x_transformer_pu = decimal x 1;
      scr = decimal scr 1;
      control_angle_deg = decimal angle 1;
      x_commutation_pu = decimal xc 1;
      arm_inductance_mh = decimal arm 1;
      sm_capacitance_uf = decimal sm 1;
    }

stations_are : map station_ok (
    station 65535 65535 2000 20000 1000 1000 180 10 1000 100000 ∷
    station 65536 65535 2000 20000 1000 1000 180 10 1000 100000 ∷
    station 65535 65536 2000 20000 1000 1000 180 10 1000 100000 ∷
    station 65535 65535 2001 20000 1000 1000 180 10 1000 100000 ∷
    station 65535 65535 2000 20001 1000 1000 180 10 1000 100000 ∷
    station 65535 65535 2000 20000 1001 1000 180 10 1000 100000 ∷
    station 65535 65535 2000 20000 1000 1001 180 10 1000 100000 ∷
    station 65535 65535 2000 20000 1000 1000 181 10 1000 100000 ∷
    station 65535 65535 2000 20000 1000 1000 180 11 1000 100000 ∷
    station 65535 65535 2000 20000 1000 1000 180 10 1001 100000 ∷
    station 65535 65535 2000 20000 1000 1000 180 10 1000 100001 ∷
    []) ≡ first_alone 10
unfolding station_ok topology_ok real_in whole_in le lt eq of_int round
stations_are = refl

-- 0 kV is refused; only an MMC has submodules to refuse
blank_is : (station_ok blank_station ≡ false) × (map topology_ok (Lcc ∷ TwoLevelVsc ∷ Hybrid ∷ Mmc 0 ∷ []) ≡ replicate 4 true)
unfolding station_ok topology_ok real_in whole_in le lt eq of_int of_bits round
blank_is = (refl, refl)

abbrev cable : (id from to r l c length : ℕ) → DcCable
cable id from to r l c length = record { id = id; from_station = from; to_station = to; r_per_km = decimal r 1; l_per_km = decimal l 1; c_per_km = decimal c 1; length_km = decimal length 1 }

cables_are : map cable_ok (
    cable 65535 65535 65535 1000 1000 1000 10000 ∷
    cable 65536 65535 65535 1000 1000 1000 10000 ∷
    cable 65535 65536 65535 1000 1000 1000 10000 ∷
    cable 65535 65535 65536 1000 1000 1000 10000 ∷
    cable 65535 65535 65535 1001 1000 1000 10000 ∷
    cable 65535 65535 65535 1000 1001 1000 10000 ∷
    cable 65535 65535 65535 1000 1000 1001 10000 ∷
    cable 65535 65535 65535 1000 1000 1000 10001 ∷
    []) ≡ first_alone 7
unfolding cable_ok real_in whole_in le lt eq of_int round
cables_are = refl

abbrev breaker : (id station : ℕ) → DcBreakerType → (current energy : ℕ) → DcBreaker
breaker id station kind current energy = record { id = id; station_id = station; breaker_type = kind; max_breaking_current_ka = decimal current 1; energy_absorption_mj = decimal energy 1 }

breakers_are : map breaker_ok (
    breaker 65535 65535 (Mechanical (decimal 100000 1)) 1000 100000 ∷
    breaker 65536 65535 (Mechanical (decimal 100000 1)) 1000 100000 ∷
    breaker 65535 65536 (Mechanical (decimal 100000 1)) 1000 100000 ∷
    breaker 65535 65535 (Mechanical (decimal 100001 1)) 1000 100000 ∷
    breaker 65535 65535 (Mechanical (decimal 100000 1)) 1001 100000 ∷
    breaker 65535 65535 (Mechanical (decimal 100000 1)) 1000 100001 ∷
    []) ≡ first_alone 5
unfolding breaker_ok breaker_type_ok real_in whole_in le lt eq of_int round
breakers_are = refl

kinds_are : (map breaker_type_ok (SolidState (decimal 100000 1) (decimal 100 1) ∷ SolidState (decimal 100001 1) (decimal 100 1) ∷ SolidState (decimal 100000 1) (decimal 101 1) ∷ []) ≡ first_alone 2)
    × (map breaker_type_ok (HybridBreaker (decimal 100000 1) (decimal 100000 1) ∷ HybridBreaker (decimal 100001 1) (decimal 100000 1) ∷ HybridBreaker (decimal 100000 1) (decimal 100001 1) ∷ []) ≡ first_alone 2)
unfolding breaker_type_ok real_in le lt eq of_int round
kinds_are = (refl, refl)

abbrev fault : (cable fraction resistance inception : ℕ) → DcFaultEvent
fault cable fraction resistance inception = record { fault_type = PoleToGround; location_cable_id = cable; location_fraction = decimal fraction 1; fault_resistance = decimal resistance 1; inception_time_ms = decimal inception 1 }

faults_are : map fault_ok (fault 65535 1 1000000 100000 ∷ fault 65536 1 1000000 100000 ∷ fault 65535 2 1000000 100000 ∷ fault 65535 1 1000001 100000 ∷ fault 65535 1 1000000 100001 ∷ []) ≡ first_alone 4
unfolding fault_ok real_in whole_in le lt eq of_int round
faults_are = refl

abbrev asked : (resistance inception low high : ℕ) → SweepOrder
asked resistance inception low high = record { fault_resistance = decimal resistance 1; inception_time_ms = decimal inception 1; low_tenth = low; high_tenth = high }

-- tenths 0 ≤ low ≤ high ≤ 10
orders_are : (map order_ok (asked 1000000 100000 10 10 ∷ asked 1000001 100000 10 10 ∷ asked 1000000 100001 10 10 ∷ asked 1000000 100000 10 11 ∷ asked 1000000 100000 11 11 ∷ asked 1000000 100000 4 3 ∷ []) ≡ first_alone 5)
    × (order_ok (asked 0 0 0 10) ≡ true) × (order_ok (asked 0 0 0 0) ≡ true)
unfolding order_ok real_in whole_in le lt eq of_int round
orders_are = (refl, refl, refl)
