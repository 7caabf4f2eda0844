-- Worked examples of the definitions: they are believed, so a wrong clause need break no other proof. The answers are the published Rust's.
use Prim.Native.Nat.{ℕ}
use mathlib.Core.Path.{◌≡◌, refl}
use mathlib.Core.List.{List, [], ◌∷◌}
use lib.ListN.{take}
use lib.Ieee.{Float, binary64, of_bits, of_int, round, neg, add, sub, mul, div, lt, eq, is_nan}
use Rattle.lists.specs.Tables.{tab, padded}
use Rattle.float64.specs.Constants.{nought, decimal}
use Rattle.float64.specs.Choice.{max_of}
use Rattle.grid.specs.declared.parts.ConverterTopology.{ConverterTopology}
use Rattle.grid.specs.declared.parts.ConverterTopology.TheVariants.{Lcc, TwoLevelVsc, Mmc, Hybrid}
use Rattle.grid.specs.declared.parts.DcFaultType.TheVariants.{PoleToGround}
use Rattle.grid.specs.declared.parts.ConverterStation.{ConverterStation}
use Rattle.grid.specs.declared.parts.DcCable.{DcCable}
use Rattle.grid.specs.declared.parts.DcFaultEvent.{DcFaultEvent}
use Rattle.grid.specs.declared.simulator.DcSwitchingSimulator.{DcSwitchingSimulator}
use Rattle.network.specs.declared.network.Drain.{Drain}
use Rattle.state_derivatives.specs.declared.state.DcTransientState.{DcTransientState}
use Rattle.network.specs.Capacitance.{own_capacitance, joined_capacitance, capacitance_at}
use Rattle.network.specs.Network.{network_of, no_drain, drain_of}
use Rattle.state_derivatives.specs.Derivatives.{derivatives}
use Rattle.transient.specs.Rk4.{ahead, blended, rk4, raised, new_state, step_by, rk4_step}

double : ℕ → Float
double n = of_bits binary64 n

station : ConverterTopology → (id kv mw uf : ℕ) → ConverterStation
station t id kv mw uf =
    record {
      id = id;
      topology = t;
      v_dc_rated_kv = decimal kv 1;
      p_rated_mw = decimal mw 1;
      x_transformer_pu = nought;
      scr = nought;
      control_angle_deg = nought;
      x_commutation_pu = nought;
      arm_inductance_mh = nought;
      sm_capacitance_uf = decimal uf 1;
    }

-- 0.5 Ω, 2 mH and 0.25 µF a kilometre
cable : (from to km : ℕ) → DcCable
cable from to km = record { id = 0; from_station = from; to_station = to; r_per_km = decimal 1 2; l_per_km = decimal 2 1; c_per_km = decimal 1 4; length_km = decimal km 1 }

grid : List ConverterStation → (n : ℕ) → List DcCable → (m : ℕ) → DcSwitchingSimulator
grid stations n cables m = record { stations = stations; cables = cables; breakers = []; n_stations = n; n_cables = m; n_breakers = 0; dt_us = decimal 1000 1; duration_ms = decimal 1 1 }

state : List Float → DcTransientState
state y = record { time_ms = nought; y = y; station_currents_ka = []; fault_current_ka = nought; breaker_states = [] }

-- An MMC of two submodules and a two-level converter whose id is not its position, 3 km apart; a fault of 10 Ω at the middle.
two : DcSwitchingSimulator
two = grid (station (Mmc 2) 0 100 50 6 ∷ station TwoLevelVsc 5 200 80 0 ∷ []) 2 (cable 0 1 3 ∷ []) 1

fault_on : ℕ → DcFaultEvent
fault_on k = record { fault_type = PoleToGround; location_cable_id = k; location_fraction = decimal 1 2; fault_resistance = decimal 10 1; inception_time_ms = nought }

before : DcTransientState
before = state (decimal 100 1 ∷ decimal 190 1 ∷ decimal 1 4 ∷ [])

-- voltages and cable currents of n stations and m cables, and station currents, after a microsecond
numbers : DcSwitchingSimulator → Drain → DcTransientState → ℕ → List Float
numbers g d s size = take size (rk4_step (network_of g) d s (decimal 1 1000000)).y

currents : DcSwitchingSimulator → Drain → DcTransientState → ℕ → List Float
currents g d s n = take n (rk4_step (network_of g) d s (decimal 1 1000000)).station_currents_ka

-- with the fault, and without
two_are
    : (numbers two (drain_of two (fault_on 0)) before 3 ≡ double 0x405874350a382bf6 ∷ double 0x406791ac0de6f953 ∷ double 0x3fce107683c1078f ∷ [])
    × (currents two (drain_of two (fault_on 0)) before 2 ≡ double 0xbfce107683c1078f ∷ double 0x3fce107683c1078f ∷ [])
    × (numbers two no_drain before 3 ≡ double 0x4058f977588c5b8a ∷ double 0x4067c137d86f6e9d ∷ double 0x3fce121b6692a06f ∷ [])
unfolding double station cable grid state two fault_on before numbers currents tab padded own_capacitance joined_capacitance network_of drain_of derivatives ahead blended rk4 raised new_state step_by max_of is_nan lt eq of_bits of_int round neg add sub mul div
two_are = (refl, refl, refl)

-- Three stations, two of one id and one an MMC of no submodules: two cables side by side, one from a station to itself, one with its second and one with its first end past the count,
-- and one of no length. The fault on the third cable drains one station once, that on the fourth one station, and there is none on a tenth. A voltage that would fall below 0 is 0.
three : DcSwitchingSimulator
three = grid (station Lcc 0 100 50 0 ∷ station Hybrid 2 200 80 0 ∷ station (Mmc 0) 2 400 80 6 ∷ []) 3 (cable 0 1 3 ∷ cable 1 0 5 ∷ cable 1 1 7 ∷ cable 2 9 4 ∷ cable 9 2 6 ∷ cable 0 2 0 ∷ []) 6

mixed : DcTransientState
mixed = state (decimal 100 1 ∷ decimal 90 1 ∷ decimal 1 2 ∷ decimal 1 4 ∷ neg (decimal 1 2) ∷ decimal 2 1 ∷ neg (decimal 1 1) ∷ decimal 1 8 ∷ decimal 3 1 ∷ [])

three_are
    : (numbers three (drain_of three (fault_on 2)) mixed 9 ≡ double 0x40fd6d4f7a862c08 ∷ double 0x405670cef5c0dfc4 ∷ double 0x0000000000000000 ∷ double 0x3fb6d203d9034c86 ∷ double 0xbfd9d144d2491056 ∷ double 0x3ffffdf3c70c3dcd ∷ double 0xbfeffdf3c70c3dcd ∷ double 0x3fbffdf3c70c3dcd ∷ double 0xc15f50484f0f3a81 ∷ [])
    × (currents three (drain_of three (fault_on 2)) mixed 3 ≡ double 0x415f50482f8974b8 ∷ double 0x4003efb29c975b56 ∷ double 0xc15f50480713d601 ∷ [])
    × (numbers three (drain_of three (fault_on 3)) mixed 3 ≡ double 0x40fd6d4c21f73ca9 ∷ double 0x4056968ee82b0357 ∷ double 0x0000000000000000 ∷ [])
    × (numbers three (drain_of three (fault_on 9)) mixed 3 ≡ double 0x40fd6d4f7a87cc16 ∷ double 0x4056968ee82b0357 ∷ double 0x0000000000000000 ∷ [])
unfolding double station cable grid state three fault_on mixed numbers currents tab padded own_capacitance joined_capacitance network_of drain_of derivatives ahead blended rk4 raised new_state step_by max_of is_nan lt eq of_bits of_int round neg add sub mul div
three_are = (refl, refl, refl, refl)

-- an MMC of 2 submodules and 6 µF has 2 µF, and one of none counts as one of 1; half of 3 km at the end that the station's id names
capacitances-are
    : (capacitance_at [] (station (Mmc 2) 0 100 50 6) ≡ decimal 2 1)
    × (capacitance_at [] (station (Mmc 0) 0 100 50 6) ≡ decimal 1 1)
    × (capacitance_at (cable 0 1 3 ∷ []) (station (Mmc 2) 1 100 50 6) ≡ decimal 2375 1000)
    × (capacitance_at (cable 0 1 3 ∷ []) (station (Mmc 2) 2 100 50 6) ≡ decimal 2 1)
unfolding station cable own_capacitance joined_capacitance max_of is_nan lt eq of_bits of_int round neg add sub mul div
capacitances-are = (refl, refl, refl, refl)
