-- Worked examples of the definitions: they are believed, so a wrong clause need break no other proof. The answers were written by hand from document 01 and
-- the published Rust.
use mathlib.Core.Path.{◌≡◌, refl}
use mathlib.Core.Bool.{Bool, true, false}
use mathlib.Core.Option.{none, some}
use mathlib.Core.List.{[], ◌∷◌}
use Prim.Native.Nat.{ℕ}
use lib.Ieee.{Float, nan, binary64, of_bits, to_bits, of_int, round, div, le, is_nan, size}
use Rattle.float64.specs.Constants.{nought, decimal}
use Rattle.float64.specs.Pattern.{bits_of}
use Rattle.grid.specs.declared.parts.DcFaultType.{DcFaultType}
use Rattle.grid.specs.declared.parts.DcFaultType.TheVariants.{PoleToGround, PoleToPole, ConverterInternal}
use Rattle.grid.specs.declared.parts.DcFaultEvent.{DcFaultEvent}
use Rattle.grid.specs.declared.parts.DcBreakerType.TheVariants.{Mechanical}
use Rattle.grid.specs.declared.parts.DcCable.{DcCable}
use Rattle.grid.specs.declared.parts.DcBreaker.{DcBreaker}
use Rattle.grid.specs.declared.parts.SweepOrder.{SweepOrder}
use Rattle.grid.specs.declared.simulator.DcSwitchingSimulator.{DcSwitchingSimulator}
use Rattle.fault_cases.specs.declared.cases.CasePlace.{CasePlace}
use Rattle.case_reasons.specs.declared.reasons.CaseOutcome.{CaseOutcome}
use Rattle.fault_cases.specs.Cases.{tenths_of, cases_of, place_of, fault_in, fault_of}
use Rattle.case_reasons.specs.Reasons.{reasons_of, row_of, writes_row}

whole : ℕ → Float
whole n = decimal n 1

-- ---- cases

order : (low high : ℕ) → SweepOrder
order low high = record { fault_resistance = whole 6; inception_time_ms = whole 7; low_tenth = low; high_tenth = high }

cable : (from to : ℕ) → DcCable
cable from to = record { id = 0; from_station = from; to_station = to; r_per_km = nought; l_per_km = nought; c_per_km = nought; length_km = nought }

breaker : (station ka mj : ℕ) → DcBreaker
breaker station ka mj = record { id = 0; station_id = station; breaker_type = Mechanical nought; max_breaking_current_ka = whole ka; energy_absorption_mj = whole mj }

-- Two stations, and two cables of which one ends past them; a breaker at an end of each cable, and one that is not counted.
grid : DcSwitchingSimulator
grid =
    record {
      stations = [];
      cables = cable 0 1 ∷ cable 1 5 ∷ cable 0 5 ∷ [];
      breakers = breaker 0 10 20 ∷ breaker 5 30 40 ∷ breaker 0 1 1 ∷ [];
      n_stations = 2;
      n_cables = 2;
      n_breakers = 2;
      dt_us = nought;
      duration_ms = nought;
    }

place : (cable type tenth : ℕ) → CasePlace
place c y z = record { cable = c; fault_type = y; tenth = z }

-- the last number of a tenth, a type and a cable, and what follows them
places_are
    : (cases_of grid (order 2 4) ≡ 18)
    × (place_of (order 2 4) 0 ≡ place 0 0 2)
    × (place_of (order 2 4) 2 ≡ place 0 0 4)
    × (place_of (order 2 4) 3 ≡ place 0 1 2)
    × (place_of (order 2 4) 8 ≡ place 0 2 4)
    × (place_of (order 2 4) 9 ≡ place 1 0 2)
    × (place_of (order 2 4) 17 ≡ place 1 2 4)
unfolding order grid place
places_are = (refl, refl, refl, refl, refl, refl, refl)

-- all tenths, one of them, and tenths that rule 9 refuses
tenths_are : (tenths_of (order 0 10) ≡ 11) × (tenths_of (order 10 10) ≡ 1) × (tenths_of (order 4 2) ≡ 1) × (tenths_of (order 0 11) ≡ 1)
unfolding order
tenths_are = (refl, refl, refl, refl)

event : DcFaultType → ℕ → Float → DcFaultEvent
event type at fraction = record { fault_type = type; location_cable_id = at; location_fraction = fraction; fault_resistance = whole 6; inception_time_ms = whole 7 }

-- 0.3 and 0.7 by their bits, as the Rust has 3.0 / 10.0 and 7.0 / 10.0; the ends of a cable; places put together by hand, with types past the last
faults_are
    : (fault_of (order 2 4) 1 ≡ event PoleToGround 0 (of_bits binary64 0x3fd3_3333_3333_3333))
    × (fault_of (order 7 7) 4 ≡ event PoleToPole 1 (of_bits binary64 0x3fe6_6666_6666_6666))
    × (fault_of (order 0 0) 2 ≡ event ConverterInternal 0 nought)
    × (fault_of (order 10 10) 3 ≡ event PoleToGround 1 (whole 1))
    × (fault_in (order 2 4) (place 1 3 3) ≡ event ConverterInternal 1 (of_bits binary64 0x3fd3_3333_3333_3333))
    × (fault_in (order 2 4) (place 1 7 0) ≡ event ConverterInternal 1 nought)
unfolding fault_in order place event whole of_int of_bits round div
faults_are = (refl, refl, refl, refl, refl, refl)

-- ---- reasons

outcome : Bool → (ka mj : Float) → Bool → CaseOutcome
outcome cleared ka mj detected = record { cleared = cleared; clearing_current_ka = ka; energy_mj = mj; peak_fault_ka = nan; detected = detected }

-- on the cable from 0 to 1, whose breaker stands 10 kA and 20 MJ: at the limits none; each alone; no 2 where the fault is not cleared, but 4; all that can be together
reasons-are
    : (reasons_of grid 0 (outcome true (whole 10) (whole 20) true) ≡ 0)
    × (reasons_of grid 0 (outcome false (whole 11) (whole 20) true) ≡ 1)
    × (reasons_of grid 0 (outcome true (whole 11) (whole 20) true) ≡ 2)
    × (reasons_of grid 0 (outcome true (whole 10) (whole 21) true) ≡ 4)
    × (reasons_of grid 0 (outcome true (whole 10) (whole 20) false) ≡ 8)
    × (reasons_of grid 0 (outcome false (whole 11) (whole 21) true) ≡ 5)
    × (reasons_of grid 0 (outcome true (whole 11) (whole 21) false) ≡ 14)
    × (reasons_of grid 0 (outcome false (whole 11) (whole 21) false) ≡ 13)
unfolding reasons_of outcome grid cable breaker whole of_bits round le
reasons-are = (refl, refl, refl, refl, refl, refl, refl, refl)

-- a NaN exceeds
nan-exceeds : (reasons_of grid 0 (outcome true nan (whole 20) true) ≡ 2) × (reasons_of grid 0 (outcome true (whole 10) nan true) ≡ 4) × (reasons_of grid 0 (outcome false nan nan true) ≡ 5)
unfolding reasons_of outcome grid cable breaker whole of_bits round le
nan-exceeds = (refl, refl, refl)

-- on the cable from 1 to 5, whose breaker at 5 stands 30 kA and 40 MJ: the end is taken as given, though there are two stations
ends_are : (reasons_of grid 1 (outcome true (whole 30) (whole 40) true) ≡ 0) × (reasons_of grid 1 (outcome true (whole 31) (whole 41) true) ≡ 6)
unfolding reasons_of outcome grid cable breaker whole of_bits round le
ends_are = (refl, refl)

-- ---- rows

-- the bits of a NaN peak, and of 1, 2 and 3; no current where the fault is not cleared, and no row where there are no reasons
rows_are
    : (row_of (place 4 2 7) 14 (outcome true (whole 1) (whole 2) false) (whole 3) ≡ some (4 ∷ 2 ∷ 7 ∷ 14 ∷ 0x7ff8_0000_0000_0000 ∷ 0x3ff0_0000_0000_0000 ∷ 0x4000_0000_0000_0000 ∷ 0x4008_0000_0000_0000 ∷ []))
    × (row_of (place 4 2 7) 1 (outcome false (whole 1) (whole 2) true) (whole 3) ≡ some (4 ∷ 2 ∷ 7 ∷ 1 ∷ 0x7ff8_0000_0000_0000 ∷ 0 ∷ 0x4000_0000_0000_0000 ∷ 0x4008_0000_0000_0000 ∷ []))
    × (row_of (place 4 2 7) 0 (outcome true (whole 1) (whole 2) true) (whole 3) ≡ none)
unfolding row_of outcome place whole bits_of is_nan to_bits of_bits round size
rows_are = (refl, refl, refl)

-- it is written where all of it fits
written_are : (writes_row 1 8 16 ≡ true) × (writes_row 1 8 15 ≡ false) × (writes_row 0 8 16 ≡ false) × (writes_row 1 17 16 ≡ false)
written_are = (refl, refl, refl, refl)
