-- When the fields of a station, a cable, a breaker, a fault and a sweep order lie in their ranges. Definitions only.
use Rattle.std.specs.Prelude.{Bool, true, ◌&&◌, leb}
use Rattle.ranges.specs.Ranges as range
use Rattle.ranges.specs.Ranges.{real_in, whole_in}
use Rattle.grid.specs.declared.parts.ConverterTopology.{ConverterTopology}
use Rattle.grid.specs.declared.parts.ConverterTopology.TheVariants.{Lcc, TwoLevelVsc, Mmc, Hybrid}
use Rattle.grid.specs.declared.parts.DcBreakerType.{DcBreakerType}
use Rattle.grid.specs.declared.parts.DcBreakerType.TheVariants.{Mechanical, SolidState, HybridBreaker}
use Rattle.grid.specs.declared.parts.ConverterStation.{ConverterStation}
use Rattle.grid.specs.declared.parts.DcCable.{DcCable}
use Rattle.grid.specs.declared.parts.DcBreaker.{DcBreaker}
use Rattle.grid.specs.declared.parts.DcFaultEvent.{DcFaultEvent}
use Rattle.grid.specs.declared.parts.SweepOrder.{SweepOrder}

-- only an MMC has submodules
unfoldable pub topology_ok : ConverterTopology → Bool
topology_ok Lcc = true
topology_ok TwoLevelVsc = true
topology_ok (Mmc n) = whole_in range.submodules n
topology_ok Hybrid = true

unfoldable pub station_ok : ConverterStation → Bool
station_ok s =
    real_in range.rated_kv s.v_dc_rated_kv &&
    real_in range.rated_mw s.p_rated_mw &&
    real_in range.transformer_reactance s.x_transformer_pu &&
    real_in range.short_circuit_ratio s.scr &&
    real_in range.control_angle s.control_angle_deg &&
    real_in range.commutation_reactance s.x_commutation_pu &&
    real_in range.arm_inductance s.arm_inductance_mh &&
    real_in range.submodule_capacitance s.sm_capacitance_uf &&
    whole_in range.station_id s.id &&
    topology_ok s.topology

unfoldable pub cable_ok : DcCable → Bool
cable_ok c =
    real_in range.resistance_per_km c.r_per_km &&
    real_in range.inductance_per_km c.l_per_km &&
    real_in range.capacitance_per_km c.c_per_km &&
    real_in range.cable_length c.length_km &&
    whole_in range.cable_id c.id &&
    whole_in range.from_station c.from_station &&
    whole_in range.to_station c.to_station

-- each kind carries its own times
unfoldable pub breaker_type_ok : DcBreakerType → Bool
breaker_type_ok (Mechanical opening) = real_in range.opening_time opening
breaker_type_ok (SolidState turn_off loss) = real_in range.turn_off_time turn_off && real_in range.on_state_loss loss
breaker_type_ok (HybridBreaker opening commutation) = real_in range.opening_time opening && real_in range.commutation_time commutation

unfoldable pub breaker_ok : DcBreaker → Bool
breaker_ok b =
    breaker_type_ok b.breaker_type &&
    real_in range.breaking_current b.max_breaking_current_ka &&
    real_in range.absorbed_energy b.energy_absorption_mj &&
    whole_in range.breaker_id b.id &&
    whole_in range.breaker_station b.station_id

unfoldable pub fault_ok : DcFaultEvent → Bool
fault_ok f =
    real_in range.fault_resistance f.fault_resistance &&
    real_in range.fault_fraction f.location_fraction &&
    real_in range.inception_time f.inception_time_ms &&
    whole_in range.faulted_cable f.location_cable_id

-- tenths 0 ≤ low ≤ high ≤ 10
unfoldable pub order_ok : SweepOrder → Bool
order_ok o =
    real_in range.fault_resistance o.fault_resistance &&
    real_in range.inception_time o.inception_time_ms &&
    whole_in range.low_tenth o.low_tenth &&
    leb o.low_tenth o.high_tenth &&
    whole_in range.high_tenth o.high_tenth
