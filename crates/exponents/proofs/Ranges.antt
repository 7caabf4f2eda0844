-- What acceptance gives the circuit's parameters: 0.01 to 10,000,000 Ω, 1 to 10,001,001 mH, 0.01 to 13,200,000 µF. Assumes nothing.
use Prim.Native.Nat.{ℕ, ◌*◌, ◌<◌, min}
use native.Mathlib.Omega.{arith}
use mathlib.Core.Path.{◌≡◌, refl, sym, ap, ◌∙◌}
use mathlib.Core.Bool.{Bool, true, ◌&&◌}
use mathlib.Core.List.{List}
use lib.IntN.{pos}
use lib.ListN.{get_or, take}
use lib.Seq.{get_or-take}
use lib.Ieee.{Float, binary64, of_bits, of_int, round, lt, le, eq, is_nan, fits}
use Rattle.lists.specs.Scans.{every}
use Rattle.lists.proofs.Scanning.{left, right, passed, every_of}
use Rattle.float64.specs.Constants.{nought, one}
use Rattle.float64.specs.Arithmetic.{◌⊕◌}
use Rattle.float64.proofs.Choosing.{clamp_holds}
use Rattle.float64.proofs.Range.{UpTo, wider, from_range, to_range, times, plus, sum-up_to}
use Rattle.float64.proofs.Interval.{In, max_in, le_plus}
use Rattle.ranges.specs.Ranges as range
use Rattle.ranges.specs.Ranges.{real_in}
use Rattle.grid.specs.Simulator.{blank_station, blank_cable, stations_of}
use Rattle.grid.specs.declared.parts.ConverterStation.{ConverterStation}
use Rattle.grid.specs.declared.parts.DcCable.{DcCable}
use Rattle.grid.specs.declared.parts.DcFaultEvent.{DcFaultEvent}
use Rattle.grid.specs.declared.simulator.DcSwitchingSimulator.{DcSwitchingSimulator}
use Rattle.ranges.proofs.InRange.{in_range}
use Rattle.part_checks.specs.PartChecks.{station_ok, cable_ok}
use Rattle.fault_circuit.specs.declared.parameters.RlcParameters.{RlcParameters}
use Rattle.fault_circuit.specs.Constants.{smoothing, least_capacitance, least_cable_resistance}
use Rattle.fault_circuit.specs.Parameters.{faulted_cable, feeding_station, fraction, distance, cable_resistance, cable_inductance, cable_capacitance, stations_capacitance, parameters_at, parameters_of}
use Rattle.exponents.specs.Claims.{InRanges}

abbrev pub whole : ℕ → Float
whole k = of_int binary64 (pos k)

pub record Ranged (p : RlcParameters) : Type 0 where
  pub resistance : In least_cable_resistance (whole 10000000) p.r_total_ohm
  pub inductance : In one (whole 10001001) p.l_total_mh
  pub capacitance : In least_capacitance (whole 13200000) p.c_total_uf

-- ---- what is accepted of a cable and of a station

pub record CableRanged (c : DcCable) : Type 0 where
  pub resistance : UpTo 1000 c.r_per_km
  pub inductance : UpTo 1000 c.l_per_km
  pub capacitance : UpTo 1000 c.c_per_km
  pub length : UpTo 10000 c.length_km

cable_ranged : (c : DcCable) → cable_ok c ≡ true → CableRanged c
unfolding cable_ok
cable_ranged c h =
    let a = real_in range.resistance_per_km c.r_per_km in
    let b = real_in range.inductance_per_km c.l_per_km in
    let d = real_in range.capacitance_per_km c.c_per_km in
    let e = real_in range.cable_length c.length_km in
    let four : (a && b && d && e) ≡ true = left _ _ (left _ _ (left _ _ h)) in
    let three = left (a && b && d) e four in
    let two = left (a && b) d three in
    record {
      resistance = in_range 1000 (omega arith) c.r_per_km (left a b two);
      inductance = in_range 1000 (omega arith) c.l_per_km (right a b two);
      capacitance = in_range 1000 (omega arith) c.c_per_km (right (a && b) d three);
      length = in_range 10000 (omega arith) c.length_km (right (a && b && d) e four);
    }

arm_ok : ConverterStation → Bool
arm_ok s = real_in range.arm_inductance s.arm_inductance_mh

capacitance_ok : ConverterStation → Bool
capacitance_ok s = real_in range.submodule_capacitance s.sm_capacitance_uf

-- what stands before these two in the order of a station's fields
before : ConverterStation → Bool
before s =
    real_in range.rated_kv s.v_dc_rated_kv &&
    real_in range.rated_mw s.p_rated_mw &&
    real_in range.transformer_reactance s.x_transformer_pu &&
    real_in range.short_circuit_ratio s.scr &&
    real_in range.control_angle s.control_angle_deg &&
    real_in range.commutation_reactance s.x_commutation_pu

both_of : (s : ConverterStation) → station_ok s ≡ true → (before s && arm_ok s && capacitance_ok s) ≡ true
unfolding station_ok before arm_ok capacitance_ok
both_of s h = left _ _ (left _ _ h)

arm_of : (s : ConverterStation) → station_ok s ≡ true → arm_ok s ≡ true
arm_of s h = right (before s) (arm_ok s) (left (before s && arm_ok s) (capacitance_ok s) (both_of s h))

capacitance_of_lem : (s : ConverterStation) → station_ok s ≡ true → capacitance_ok s ≡ true
capacitance_of_lem s h = right (before s && arm_ok s) (capacitance_ok s) (both_of s h)

blanks : (cable_ok blank_cable ≡ true) × (arm_ok blank_station ≡ true) × (capacitance_ok blank_station ≡ true)
unfolding cable_ok arm_ok capacitance_ok real_in range.whole_in le lt eq of_bits of_int round
blanks = (refl, refl, refl)

-- a part before the count has what all these parts have
among : {A : Type 0} (f : A → Bool) (d : A) (n : ℕ) (xs : List A) (k : ℕ) → f d ≡ true → every f (take n xs) ≡ true → k < n → f (get_or xs k d) ≡ true
among f d n xs k b h l = ap f (sym (get_or-take n xs k d l)) ∙ passed f d (take n xs) k b h

module _ (g : DcSwitchingSimulator) (f : DcFaultEvent) (h : InRanges g f) where
  cable : CableRanged (faulted_cable g f)
  cable = cable_ranged (faulted_cable g f) (among cable_ok blank_cable g.n_cables g.cables _ blanks.0 h.cables_ok (let a = h.some_cable in let b = h.cables in omega arith))

  arm : UpTo 1000 (feeding_station g f).arm_inductance_mh
  unfolding arm_ok
  arm =
      in_range 1000 (omega arith) _
      (among arm_ok blank_station g.n_stations g.stations _ blanks.1 (every_of station_ok arm_ok arm_of (stations_of g) h.stations_ok) (let a = h.some_station in let b = h.stations in omega arith))

  sum : UpTo 3200000 (stations_capacitance g)
  unfolding capacitance_ok
  sum =
      wider (min g.n_stations 32 * 100000) 3200000 (stations_capacitance g) (omega arith)
      (sum-up_to 100000 (λ k. (get_or g.stations k blank_station).sm_capacitance_uf) (min g.n_stations 32) (omega arith)
      (λ k l. in_range 100000 (omega arith) _
      (among capacitance_ok blank_station g.n_stations g.stations k blanks.2 (every_of station_ok capacitance_ok capacitance_of_lem (stations_of g) h.stations_ok) (omega arith))))

  reached : UpTo 10000 (distance (faulted_cable g f) f)
  unfolding of_bits le lt eq of_int round
  reached =
      times 10000 1 _ (fraction f) (omega arith) cable.length
      (clamp_holds (UpTo 1) f.location_fraction nought one (in_range 1 (omega arith) _ h.fraction) (from_range 1 (omega arith) nought tt tt) (from_range 1 (omega arith) one tt tt))

  pub ranged : Ranged (parameters_of g f)
  unfolding parameters_at of_bits le lt eq of_int round is_nan fits
  ranged =
      let r : UpTo 10000000 (cable_resistance (faulted_cable g f) f) = times 1000 10000 _ _ (omega arith) cable.resistance reached in
      let l : UpTo 10001000 (cable_inductance (faulted_cable g f) f ⊕ (feeding_station g f).arm_inductance_mh) = plus 10000000 1000 _ _ (omega arith) (times 1000 10000 _ _ (omega arith) cable.inductance reached) arm in
      let l' : UpTo 10001001 (cable_inductance (faulted_cable g f) f ⊕ (feeding_station g f).arm_inductance_mh ⊕ smoothing) = plus 10001000 1 _ smoothing (omega arith) l (from_range 1 (omega arith) smoothing tt tt) in
      let c : UpTo 13200000 (cable_capacitance (faulted_cable g f) ⊕ stations_capacitance g) = plus 10000000 3200000 _ _ (omega arith) (times 1000 10000 _ _ (omega arith) cable.capacitance cable.length) sum in
      record {
        resistance = max_in _ least_cable_resistance (whole 10000000) tt (to_range 10000000 (omega arith) _ r).1 tt;
        inductance = record { from = le_plus 10001000 _ smoothing l tt tt; to = (to_range 10001001 (omega arith) _ l').1 };
        capacitance = max_in _ least_capacitance (whole 13200000) tt (to_range 13200000 (omega arith) _ c).1 tt;
      }
