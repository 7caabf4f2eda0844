-- Worked examples of the definitions: they are believed, so a wrong clause need break no other proof. The answers were written by hand from document 01.
use mathlib.Core.Path.{◌≡◌, refl}
use mathlib.Core.Bool.{Bool, true, false, not, ◌&&◌}
use mathlib.Core.List.{[], ◌∷◌}
use Prim.Native.Nat.{ℕ, zero, suc, ◌+◌, ◌-◌, ◌^◌}
use lib.Ieee.{Float, nan, inf, binary64, of_bits, to_bits, of_int, round, neg, lt, le, eq}
use Rattle.lists.specs.Scans.{every}
use Rattle.float64.specs.Constants.{nought, decimal}
use Rattle.ranges.specs.Ranges as range
use Rattle.ranges.specs.Ranges.{Ends, real_in, whole_in}

-- rated kV 1 to 2,000: both ends, the doubles next to them outside, and 01's 1,999.9 and 0.5
kv_are : (real_in range.rated_kv (decimal 1 1) ≡ true) × (real_in range.rated_kv (decimal 2000 1) ≡ true) × (real_in range.rated_kv (of_bits binary64 0x3fef_ffff_ffff_ffff) ≡ false)
    × (real_in range.rated_kv (of_bits binary64 0x409f_4000_0000_0001) ≡ false) × (real_in range.rated_kv (decimal 19999 10) ≡ true) × (real_in range.rated_kv (decimal 5 10) ≡ false)
    × (real_in range.rated_kv nan ≡ false) × (real_in range.rated_kv (inf false) ≡ false)
unfolding real_in le lt eq of_int of_bits round
kv_are = (refl, refl, refl, refl, refl, refl, refl, refl)

-- a range from 0: minus zero is 0, and the least negative double is outside
mw_are : (real_in range.rated_mw nought ≡ true) × (real_in range.rated_mw (neg nought) ≡ true) × (real_in range.rated_mw (neg (of_bits binary64 1)) ≡ false) × (real_in range.rated_mw (inf true) ≡ false)
unfolding real_in le lt eq of_int of_bits round neg
mw_are = (refl, refl, refl, refl)

-- ---- every range of 01's list

record Row : Type 0 where
  field : Ends
  low : ℕ
  high : ℕ

abbrev row : Ends → ℕ → ℕ → Row
row f l h = record { field = f; low = l; high = h }

-- the doubles next to a whole number
next_below : ℕ → Float
next_below zero = neg (of_bits binary64 1)
next_below (suc n) = of_bits binary64 (to_bits binary64 (decimal (suc n) 1) - 1)

next_above : ℕ → Float
next_above n = of_bits binary64 (to_bits binary64 (decimal n 1) + 1)

-- both ends are accepted, and the doubles next to them are not
reals : Row → Bool
reals r = real_in r.field (decimal r.low 1) && real_in r.field (decimal r.high 1) && not (real_in r.field (next_below r.low)) && not (real_in r.field (next_above r.high))

-- both ends are accepted, and the next whole number is not
wholes : Row → Bool
wholes r = whole_in r.field r.low && whole_in r.field r.high && not (whole_in r.field (r.high + 1))

ranges_are : every reals (
    row range.rated_kv 1 2000 ∷
    row range.rated_mw 0 20000 ∷
    row range.transformer_reactance 0 1000 ∷
    row range.short_circuit_ratio 0 1000 ∷
    row range.control_angle 0 180 ∷
    row range.commutation_reactance 0 10 ∷
    row range.arm_inductance 0 1000 ∷
    row range.submodule_capacitance 0 100000 ∷
    row range.resistance_per_km 0 1000 ∷
    row range.inductance_per_km 0 1000 ∷
    row range.capacitance_per_km 0 1000 ∷
    row range.cable_length 0 10000 ∷
    row range.opening_time 0 100000 ∷
    row range.turn_off_time 0 100000 ∷
    row range.commutation_time 0 100000 ∷
    row range.on_state_loss 0 100 ∷
    row range.breaking_current 0 1000 ∷
    row range.absorbed_energy 0 100000 ∷
    row range.fault_resistance 0 1000000 ∷
    row range.fault_fraction 0 1 ∷
    row range.inception_time 0 100000 ∷
    row range.time_step 0 1000000 ∷
    row range.duration 0 100000 ∷
    []) ≡ true
unfolding reals next_below next_above real_in le lt eq of_int of_bits to_bits round neg
ranges_are = refl

whole_ranges_are : every wholes (
    row range.low_tenth 0 10 ∷
    row range.high_tenth 0 10 ∷
    row range.station_id 0 65535 ∷
    row range.cable_id 0 65535 ∷
    row range.breaker_id 0 65535 ∷
    row range.breaker_station 0 65535 ∷
    row range.from_station 0 65535 ∷
    row range.to_station 0 65535 ∷
    row range.faulted_cable 0 65535 ∷
    row range.submodules 0 65535 ∷
    []) ≡ true
unfolding wholes whole_in
whole_ranges_are = refl

-- the largest u64 is in no range
largest_is : whole_in range.to_station (2 ^ 64 - 1) ≡ false
unfolding whole_in
largest_is = refl
