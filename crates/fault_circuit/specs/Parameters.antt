-- 000's `fault_rlc_params`, a line to a definition. Definitions only.
use Rattle.std.specs.Prelude.{ℕ, get_or, Float}
use Rattle.float64.specs.Constants.{nought, one}
use Rattle.float64.specs.Arithmetic.{◌⊕◌, ◌⊗◌, sum_of}
use Rattle.float64.specs.Choice.{max_of, clamp_of}
use Rattle.grid.specs.Cables.{cut}
use Rattle.grid.specs.Simulator.{blank_station, blank_cable, station_count, cable_count}
use Rattle.grid.specs.declared.parts.ConverterStation.{ConverterStation}
use Rattle.grid.specs.declared.parts.DcCable.{DcCable}
use Rattle.grid.specs.declared.parts.DcFaultEvent.{DcFaultEvent}
use Rattle.grid.specs.declared.simulator.DcSwitchingSimulator.{DcSwitchingSimulator}
use Rattle.fault_circuit.specs.declared.parameters.RlcParameters.{RlcParameters}
use Rattle.fault_circuit.specs.Constants.{smoothing, least_capacitance, least_cable_resistance}

-- The cable and the station of a number, cut to the last. Of no cables or no stations, which every fault study refuses, it is the first place of the array.
abbrev pub cut_cable : DcSwitchingSimulator → ℕ → DcCable
cut_cable g k = get_or g.cables (cut (cable_count g.n_cables) k) blank_cable

abbrev pub cut_station : DcSwitchingSimulator → ℕ → ConverterStation
cut_station g k = get_or g.stations (cut (station_count g.n_stations) k) blank_station

abbrev pub faulted_cable : DcSwitchingSimulator → DcFaultEvent → DcCable
faulted_cable g f = cut_cable g f.location_cable_id

-- the converter that feeds the fault stands at the cable's first end
abbrev pub feeding_station : DcSwitchingSimulator → DcFaultEvent → ConverterStation
feeding_station g f = cut_station g (faulted_cable g f).from_station

-- frac and dist: how far from that end the fault is, in km
abbrev pub fraction : DcFaultEvent → Float
fraction f = clamp_of f.location_fraction nought one

abbrev pub distance : DcCable → DcFaultEvent → Float
distance c f = c.length_km ⊗ fraction f

-- up to the fault
abbrev pub cable_resistance : DcCable → DcFaultEvent → Float
cable_resistance c f = c.r_per_km ⊗ distance c f

abbrev pub cable_inductance : DcCable → DcFaultEvent → Float
cable_inductance c f = c.l_per_km ⊗ distance c f

-- of the full cable
abbrev pub cable_capacitance : DcCable → Float
cable_capacitance c = c.c_per_km ⊗ c.length_km

-- of all stations; `sum` starts at zero
abbrev pub stations_capacitance : DcSwitchingSimulator → Float
stations_capacitance g = sum_of (λ k. (get_or g.stations k blank_station).sm_capacitance_uf) (station_count g.n_stations)

-- from a cable, the station that feeds it and the stations' capacitance
unfoldable pub parameters_at : DcCable → ConverterStation → Float → DcFaultEvent → RlcParameters
parameters_at c s stations f =
    record {
      l_total_mh = cable_inductance c f ⊕ s.arm_inductance_mh ⊕ smoothing;
      c_total_uf = max_of (cable_capacitance c ⊕ stations) least_capacitance;
      r_total_ohm = max_of (cable_resistance c f) least_cable_resistance;
      r_fault_ohm = f.fault_resistance;
      v_dc_kv = s.v_dc_rated_kv;
    }

abbrev pub parameters_of : DcSwitchingSimulator → DcFaultEvent → RlcParameters
parameters_of g f = parameters_at (faulted_cable g f) (feeding_station g f) (stations_capacitance g) f
