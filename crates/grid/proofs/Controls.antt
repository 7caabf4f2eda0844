-- Worked examples of the definitions: they are believed, so a wrong clause need break no other proof. The answers were written by hand from document 01.
use mathlib.Core.Path.{◌≡◌, refl}
use mathlib.Core.Bool.{true}
use Rattle.std.specs.Prelude.{Option, Some, None, is_some}
use Rattle.std.specs.Option.{option_map, option_and_then}
use Prim.Native.Nat.{ℕ}
use lib.ListN.{replicate, get_or}
use lib.Ieee.{nan, of_bits, of_int, round, neg, lt, le, eq, is_nan}
use Rattle.float64.specs.Constants.{nought, decimal}
use Rattle.float64.specs.Choice.{max_of}
use Rattle.ranges.specs.Ranges.{real_in}
use Rattle.grid.specs.Simulator.{blank_station, blank_cable, blank_breaker, kept_time_step, kept_duration, new_simulator, with_station, with_cable, with_breaker}
use Rattle.grid.specs.declared.parts.DcCable.{DcCable}
use Rattle.grid.specs.declared.simulator.DcSwitchingSimulator.{DcSwitchingSimulator}

-- what `new` keeps: raised in range, left outside
kept_are : (kept_time_step (decimal 5 100) ≡ decimal 1 10) × (kept_time_step nan ≡ nan) × (kept_time_step (neg (decimal 1 1)) ≡ neg (decimal 1 1)) × (kept_time_step (decimal 2000000 1) ≡ decimal 2000000 1)
    × (kept_duration nought ≡ decimal 1 1000) × (kept_duration (decimal 100000 1) ≡ decimal 100000 1)
unfolding kept_time_step kept_duration real_in le lt eq of_int of_bits round neg max_of is_nan
kept_are = (refl, refl, refl, refl, refl, refl)

-- a part of each kind put in
one : Option DcSwitchingSimulator
one = option_and_then (λ g. with_breaker g blank_breaker) (option_and_then (λ g. with_cable g blank_cable) (with_station (new_simulator (decimal 10 1) (decimal 100 1)) blank_station))

counts_are : (option_map (λ g. g.n_stations) one ≡ Some 1) × (option_map (λ g. g.n_cables) one ≡ Some 1) × (option_map (λ g. g.n_breakers) one ≡ Some 1)
unfolding one new_simulator with_station with_cable with_breaker
counts_are = (refl, refl, refl)

-- ---- room: the 32nd station, the 64th cable and the 32nd breaker have it, and are put last; the next ones have none

counted : (stations cables breakers : ℕ) → DcSwitchingSimulator
counted s c b = record { stations = replicate 32 blank_station; cables = replicate 64 blank_cable; breakers = replicate 32 blank_breaker; n_stations = s; n_cables = c; n_breakers = b; dt_us = nought; duration_ms = nought }

seventh : DcCable
seventh = record { id = 7; from_station = 0; to_station = 0; r_per_km = nought; l_per_km = nought; c_per_km = nought; length_km = nought }

rooms_are : (is_some (with_station (counted 31 0 0) blank_station) ≡ true) × (with_station (counted 32 0 0) blank_station ≡ None)
    × (is_some (with_cable (counted 0 63 0) blank_cable) ≡ true) × (with_cable (counted 0 64 0) blank_cable ≡ None)
    × (is_some (with_breaker (counted 0 0 31) blank_breaker) ≡ true) × (with_breaker (counted 0 0 32) blank_breaker ≡ None)
    × (option_map (λ g. g.n_stations) (with_station (counted 31 0 0) blank_station) ≡ Some 32)
    × (option_map (λ g. g.n_cables) (with_cable (counted 0 63 0) seventh) ≡ Some 64)
    × (option_map (λ g. g.n_breakers) (with_breaker (counted 0 0 31) blank_breaker) ≡ Some 32)
    × (option_map (λ g. (get_or g.cables 63 blank_cable).id) (with_cable (counted 0 63 0) seventh) ≡ Some 7)
unfolding counted seventh with_station with_cable with_breaker
rooms_are = (refl, refl, refl, refl, refl, refl, refl, refl, refl, refl)
