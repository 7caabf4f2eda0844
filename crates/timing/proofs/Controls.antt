-- Worked examples of the definitions: they are believed, so a wrong clause need break no other proof. The answers were written by hand from document 01.
use mathlib.Core.Path.{◌≡◌, refl}
use mathlib.Core.Bool.{true, false}
use Rattle.std.specs.Prelude.{Option, Some}
use Rattle.std.specs.Option.{option_map, option_and_then}
use lib.ListN.{replicate}
use lib.Ieee.{Float, nan, binary64, of_bits, of_int, round, neg, div, lt, le, eq, is_nan}
use Rattle.float64.specs.Constants.{nought, decimal}
use Rattle.float64.specs.Choice.{max_of}
use Rattle.ranges.specs.Ranges.{real_in}
use Rattle.grid.specs.Simulator.{blank_station, blank_cable, blank_breaker, kept_time_step, kept_duration, new_simulator, with_station, with_cable, with_breaker}
use Rattle.timing.specs.Steps.{time_step_ms, duration_ms, rounded_up, steps_of, interval_of, recorded, count_below, records_of, record_length}
use Rattle.grid.specs.declared.simulator.DcSwitchingSimulator.{DcSwitchingSimulator}

-- 01's examples that are run: 10,000 steps; a million steps, and more
steps_are : (steps_of (new_simulator (decimal 10 1) (decimal 100 1)) ≡ 10000) × (steps_of (new_simulator (decimal 1 1) (decimal 1000 1)) ≡ 1000000) × (steps_of (new_simulator (decimal 1 1) (decimal 1001 1)) ≡ 1001000)
    × (steps_of (new_simulator (decimal 1000000 1) nought) ≡ 1)
unfolding steps_of new_simulator kept_time_step kept_duration real_in le lt eq of_int of_bits round max_of is_nan div rounded_up
steps_are = (refl, refl, refl, refl)

up_are : (rounded_up (decimal 5 2) ≡ 3) × (rounded_up (decimal 3 1) ≡ 3) × (rounded_up (neg (decimal 3 1)) ≡ 0) × (rounded_up nan ≡ 0)
unfolding rounded_up round neg
up_are = (refl, refl, refl, refl)

-- every step of 9,999, every second of 10,000; of 12 steps at an interval of 1 all
intervals_are : (interval_of 1 ≡ 1) × (interval_of 9999 ≡ 1) × (interval_of 10000 ≡ 2) × (interval_of 1000000 ≡ 200) × (recorded 10000 9998 ≡ true) × (recorded 10000 9997 ≡ false) × (recorded 10000 9999 ≡ true) × (records_of 12 ≡ 12)
unfolding count_below
intervals_are = (refl, refl, refl, refl, refl, refl, refl, refl)

-- time and fault current; one station's two numbers, a cable, a breaker
one : Option DcSwitchingSimulator
one = option_and_then (λ g. with_breaker g blank_breaker) (option_and_then (λ g. with_cable g blank_cable) (with_station (new_simulator (decimal 10 1) (decimal 100 1)) blank_station))

lengths_are : option_map record_length one ≡ Some 6
unfolding one new_simulator with_station with_cable with_breaker
lengths_are = refl

-- grids put together by hand: a time step in µs and a duration in ms, in their ranges and below the least, are raised all the same; others are left
made : Float → Float → DcSwitchingSimulator
made dt duration = record { stations = replicate 32 blank_station; cables = replicate 64 blank_cable; breakers = replicate 32 blank_breaker; n_stations = 0; n_cables = 0; n_breakers = 0; dt_us = dt; duration_ms = duration }

-- 0.0001 and 0.01
steps_used : (of_bits binary64 0x3f1a_36e2_eb1c_432d ≡ decimal 1 10000) × (of_bits binary64 0x3f84_7ae1_47ae_147b ≡ decimal 1 100)
unfolding of_bits round
steps_used = (refl, refl)

raised_are : (time_step_ms (made nought nought) ≡ of_bits binary64 0x3f1a_36e2_eb1c_432d) × (time_step_ms (made (decimal 5 100) nought) ≡ of_bits binary64 0x3f1a_36e2_eb1c_432d)
    × (time_step_ms (made nan nan) ≡ of_bits binary64 0x3f1a_36e2_eb1c_432d) × (time_step_ms (made (decimal 10 1) nought) ≡ of_bits binary64 0x3f84_7ae1_47ae_147b)
    × (duration_ms (made nought nought) ≡ decimal 1 1000) × (duration_ms (made nought (decimal 5 10000)) ≡ decimal 1 1000) × (duration_ms (made nan nan) ≡ decimal 1 1000) × (duration_ms (made nought (decimal 100 1)) ≡ decimal 100 1)
    × (steps_of (made nought nought) ≡ 10)
unfolding made max_of is_nan lt of_bits round div rounded_up steps_of
raised_are = (refl, refl, refl, refl, refl, refl, refl, refl, refl)
