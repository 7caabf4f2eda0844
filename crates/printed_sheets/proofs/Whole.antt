-- The whole numbers of accepted parts stand in a field. Assumes nothing.
use Prim.Native.Nat.{ℕ, ◌^◌, ◌≤◌, ◌<◌}
use mathlib.Core.Path.{◌≡◌}
use mathlib.Core.Bool.{Bool, true, ◌&&◌}
use native.Mathlib.Omega.{arith}
use lib.Dec.{leb}
use borrow.Author.Tests.{leb-true}
use Rattle.lists.proofs.Scanning.{left, right}
use Rattle.ranges.specs.Ranges as range
use Rattle.ranges.specs.Ranges.{Ends, real_in, whole_in}
use Rattle.grid.specs.declared.parts.ConverterTopology.{ConverterTopology}
use Rattle.grid.specs.declared.parts.ConverterTopology.TheVariants.{Lcc, TwoLevelVsc, Mmc, Hybrid}
use Rattle.grid.specs.declared.parts.DcBreakerType.{DcBreakerType}
use Rattle.grid.specs.declared.parts.DcBreakerType.TheVariants.{Mechanical, SolidState, HybridBreaker}
use Rattle.grid.specs.declared.parts.ConverterStation.{ConverterStation}
use Rattle.grid.specs.declared.parts.DcCable.{DcCable}
use Rattle.grid.specs.declared.parts.DcBreaker.{DcBreaker}
use Rattle.grid.specs.declared.parts.SweepOrder.{SweepOrder}
use Rattle.part_checks.specs.PartChecks.{topology_ok, station_ok, cable_ok, breaker_type_ok, breaker_ok, order_ok}
use Rattle.printed_sheets.specs.Printing.{whole, topology_number, submodules_in, kind_number}
use Rattle.printed_sheets.specs.Claims.{Fits}

pub whole_fits : (n : ℕ) → n < 10 ^ 12 → Fits (whole n)
whole_fits n h = record { places_most = omega arith; digits_held = h }

-- a number in a range
in_range : (e : Ends) (n : ℕ) → e.high < 10 ^ 12 → whole_in e n ≡ true → Fits (whole n)
unfolding whole_in
in_range e n k h = let l : n ≤ e.high = leb-true n e.high (right (leb e.low n) (leb n e.high) h) in whole_fits n (omega arith)

pub topology_fits : (t : ConverterTopology) → Fits (whole (topology_number t))
topology_fits Lcc = whole_fits 0 (omega arith)
topology_fits TwoLevelVsc = whole_fits 1 (omega arith)
topology_fits (Mmc n) = whole_fits 2 (omega arith)
topology_fits Hybrid = whole_fits 3 (omega arith)

submodules_fit : (t : ConverterTopology) → topology_ok t ≡ true → Fits (whole (submodules_in t))
unfolding topology_ok
submodules_fit Lcc h = whole_fits 0 (omega arith)
submodules_fit TwoLevelVsc h = whole_fits 0 (omega arith)
submodules_fit (Mmc n) h = in_range range.submodules n (omega arith) h
submodules_fit Hybrid h = whole_fits 0 (omega arith)

pub kind_fits : (t : DcBreakerType) → Fits (whole (kind_number t))
kind_fits (Mechanical opening) = whole_fits 0 (omega arith)
kind_fits (SolidState turn_off loss) = whole_fits 1 (omega arith)
kind_fits (HybridBreaker opening commutation) = whole_fits 2 (omega arith)

-- ---- from the checks of the parts

-- the fields before the whole numbers
abbrev station_reals : ConverterStation → Bool
station_reals s =
    real_in range.rated_kv s.v_dc_rated_kv &&
    real_in range.rated_mw s.p_rated_mw &&
    real_in range.transformer_reactance s.x_transformer_pu &&
    real_in range.short_circuit_ratio s.scr &&
    real_in range.control_angle s.control_angle_deg &&
    real_in range.commutation_reactance s.x_commutation_pu &&
    real_in range.arm_inductance s.arm_inductance_mh &&
    real_in range.submodule_capacitance s.sm_capacitance_uf

pub station_wholes : (s : ConverterStation) → station_ok s ≡ true → Fits (whole (submodules_in s.topology)) × Fits (whole s.id)
unfolding station_ok
station_wholes s h =
    let id-in = whole_in range.station_id s.id in (
      submodules_fit s.topology (right (station_reals s && id-in) (topology_ok s.topology) h),
      in_range range.station_id s.id (omega arith) (right (station_reals s) id-in (left (station_reals s && id-in) (topology_ok s.topology) h)),
    )

abbrev cable_reals : DcCable → Bool
cable_reals c =
    real_in range.resistance_per_km c.r_per_km &&
    real_in range.inductance_per_km c.l_per_km &&
    real_in range.capacitance_per_km c.c_per_km &&
    real_in range.cable_length c.length_km

pub cable_wholes : (c : DcCable) → cable_ok c ≡ true → Fits (whole c.id) × Fits (whole c.from_station) × Fits (whole c.to_station)
unfolding cable_ok
cable_wholes c h =
    let id-in = whole_in range.cable_id c.id in
    let from_in = whole_in range.from_station c.from_station in
    let to_in = whole_in range.to_station c.to_station in
    let l = left (cable_reals c && id-in && from_in) to_in h in (
      in_range range.cable_id c.id (omega arith) (right (cable_reals c) id-in (left (cable_reals c && id-in) from_in l)),
      in_range range.from_station c.from_station (omega arith) (right (cable_reals c && id-in) from_in l),
      in_range range.to_station c.to_station (omega arith) (right (cable_reals c && id-in && from_in) to_in h),
    )

abbrev breaker_reals : DcBreaker → Bool
breaker_reals b =
    breaker_type_ok b.breaker_type && real_in range.breaking_current b.max_breaking_current_ka && real_in range.absorbed_energy b.energy_absorption_mj

pub breaker_wholes : (b : DcBreaker) → breaker_ok b ≡ true → Fits (whole b.id) × Fits (whole b.station_id)
unfolding breaker_ok
breaker_wholes b h =
    let id-in = whole_in range.breaker_id b.id in
    let station-in = whole_in range.breaker_station b.station_id in (
      in_range range.breaker_id b.id (omega arith) (right (breaker_reals b) id-in (left (breaker_reals b && id-in) station-in h)),
      in_range range.breaker_station b.station_id (omega arith) (right (breaker_reals b && id-in) station-in h),
    )

abbrev order_reals : SweepOrder → Bool
order_reals o = real_in range.fault_resistance o.fault_resistance && real_in range.inception_time o.inception_time_ms

pub order_wholes : (o : SweepOrder) → order_ok o ≡ true → Fits (whole o.low_tenth) × Fits (whole o.high_tenth)
unfolding order_ok
order_wholes o h =
    let low-in = whole_in range.low_tenth o.low_tenth in
    let ordered = leb o.low_tenth o.high_tenth in
    let high-in = whole_in range.high_tenth o.high_tenth in (
      in_range range.low_tenth o.low_tenth (omega arith) (right (order_reals o) low-in (left (order_reals o && low-in) ordered (left (order_reals o && low-in && ordered) high-in h))),
      in_range range.high_tenth o.high_tenth (omega arith) (right (order_reals o && low-in && ordered) high-in h),
    )
