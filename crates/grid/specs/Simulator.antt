-- A grid: what `new` makes, what a part more makes of it, and which parts it has. Definitions only.
use Rattle.std.specs.Prelude.{ℕ, ◌+◌, min, cond, Option, Some, None, List, ltb, take, set, replicate, ◌≡◌, refl, Float}
use Rattle.std.specs.Float.{binary64}
use Rattle.std.specs.Float.Ieee.{of_bits, round}
use Rattle.float64.specs.Constants.{nought, decimal}
use Rattle.float64.specs.Choice.{max_of}
use Rattle.grid.specs.declared.parts.ConverterTopology.TheVariants.{Lcc}
use Rattle.grid.specs.declared.parts.DcBreakerType.TheVariants.{Mechanical}
use Rattle.grid.specs.declared.parts.ConverterStation.{ConverterStation}
use Rattle.grid.specs.declared.parts.DcCable.{DcCable}
use Rattle.grid.specs.declared.parts.DcBreaker.{DcBreaker}
use Rattle.grid.specs.declared.simulator.DcSwitchingSimulator.{DcSwitchingSimulator}
use Rattle.ranges.specs.Ranges as range
use Rattle.ranges.specs.Ranges.{real_in}

-- the parts that the counts speak of: what stands past a count is none of the grid's, and a count past an array takes all of it
abbrev pub stations_of : DcSwitchingSimulator → List ConverterStation
stations_of g = take g.n_stations g.stations

abbrev pub cables_of : DcSwitchingSimulator → List DcCable
cables_of g = take g.n_cables g.cables

abbrev pub breakers_of : DcSwitchingSimulator → List DcBreaker
breakers_of g = take g.n_breakers g.breakers

-- how many that is, of a count: a grid's, or one that was read from it
abbrev pub station_count : ℕ → ℕ
station_count n = min n 32

abbrev pub cable_count : ℕ → ℕ
cable_count n = min n 64

abbrev pub breaker_count : ℕ → ℕ
breaker_count n = min n 32

-- what an array holds where no part was put
abbrev pub blank_station : ConverterStation
blank_station =
    record {
      id = 0;
      topology = Lcc;
      v_dc_rated_kv = nought;
      p_rated_mw = nought;
      x_transformer_pu = nought;
      scr = nought;
      control_angle_deg = nought;
      x_commutation_pu = nought;
      arm_inductance_mh = nought;
      sm_capacitance_uf = nought;
    }

abbrev pub blank_cable : DcCable
blank_cable = record { id = 0; from_station = 0; to_station = 0; r_per_km = nought; l_per_km = nought; c_per_km = nought; length_km = nought }

abbrev pub blank_breaker : DcBreaker
blank_breaker = record { id = 0; station_id = 0; breaker_type = Mechanical nought; max_breaking_current_ka = nought; energy_absorption_mj = nought }

-- time step .. raised to at least 0.1; duration .. raised to at least 0.001
abbrev pub least_time_step : Float
least_time_step = of_bits binary64 0x3fb9_9999_9999_999a

abbrev pub least_duration : Float
least_duration = of_bits binary64 0x3f50_624d_d2f1_a9fc

pub constants_are : (least_time_step ≡ decimal 1 10) × (least_duration ≡ decimal 1 1000)
unfolding of_bits round
constants_are = (refl, refl)

-- what `new` keeps of a time step and a duration: raised where it lies in its range, else as it is, for rule 4 to refuse
unfoldable pub kept_time_step : Float → Float
kept_time_step dt = cond (real_in range.time_step dt) (max_of dt least_time_step) dt

unfoldable pub kept_duration : Float → Float
kept_duration d = cond (real_in range.duration d) (max_of d least_duration) d

-- a grid with no parts, and with a time step and a duration
abbrev pub without_parts : Float → Float → DcSwitchingSimulator
without_parts dt duration =
    record {
      stations = replicate 32 blank_station;
      cables = replicate 64 blank_cable;
      breakers = replicate 32 blank_breaker;
      n_stations = 0;
      n_cables = 0;
      n_breakers = 0;
      dt_us = dt;
      duration_ms = duration;
    }

-- `new`: no parts yet, and the time step and the duration as they are kept
unfoldable pub new_simulator : Float → Float → DcSwitchingSimulator
new_simulator dt duration = without_parts (kept_time_step dt) (kept_duration duration)

-- a part put at the end, where there is room for it
unfoldable pub with_station : DcSwitchingSimulator → ConverterStation → Option DcSwitchingSimulator
with_station g s =
    cond (ltb g.n_stations 32)
    (Some
    record {
      stations = set g.stations g.n_stations s;
      cables = g.cables;
      breakers = g.breakers;
      n_stations = g.n_stations + 1;
      n_cables = g.n_cables;
      n_breakers = g.n_breakers;
      dt_us = g.dt_us;
      duration_ms = g.duration_ms;
    })
    None

unfoldable pub with_cable : DcSwitchingSimulator → DcCable → Option DcSwitchingSimulator
with_cable g c =
    cond (ltb g.n_cables 64)
    (Some
    record {
      stations = g.stations;
      cables = set g.cables g.n_cables c;
      breakers = g.breakers;
      n_stations = g.n_stations;
      n_cables = g.n_cables + 1;
      n_breakers = g.n_breakers;
      dt_us = g.dt_us;
      duration_ms = g.duration_ms;
    })
    None

unfoldable pub with_breaker : DcSwitchingSimulator → DcBreaker → Option DcSwitchingSimulator
with_breaker g b =
    cond (ltb g.n_breakers 32)
    (Some
    record {
      stations = g.stations;
      cables = g.cables;
      breakers = set g.breakers g.n_breakers b;
      n_stations = g.n_stations;
      n_cables = g.n_cables;
      n_breakers = g.n_breakers + 1;
      dt_us = g.dt_us;
      duration_ms = g.duration_ms;
    })
    None
