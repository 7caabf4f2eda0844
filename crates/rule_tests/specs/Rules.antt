-- The rules 1 to 8 of document 01. Definitions only.
use Rattle.std.specs.Prelude.{Bool, not, ◌&&◌, ◌||◌, eqb, ltb}
use Rattle.lists.specs.Scans.{every}
use Rattle.ranges.specs.Ranges as range
use Rattle.ranges.specs.Ranges.{real_in}
use Rattle.part_checks.specs.PartChecks.{station_ok, cable_ok, breaker_ok}
use Rattle.grid.specs.Simulator.{stations_of, cables_of, breakers_of}
use Rattle.timing.specs.Steps.{steps_of, most_steps}
use Rattle.grid.specs.declared.simulator.DcSwitchingSimulator.{DcSwitchingSimulator}

-- ---- the rules: when each is broken

-- 1 no station
abbrev pub no_station : DcSwitchingSimulator → Bool
no_station g = eqb g.n_stations 0

-- 2 no cable
abbrev pub no_cable : DcSwitchingSimulator → Bool
no_cable g = eqb g.n_cables 0

-- 3 more than 32 stations, 64 cables or 32 breakers
unfoldable pub too_many_parts : DcSwitchingSimulator → Bool
too_many_parts g = ltb 32 g.n_stations || ltb 64 g.n_cables || ltb 32 g.n_breakers

-- 4 time step or duration outside its range
unfoldable pub time_outside : DcSwitchingSimulator → Bool
time_outside g = not (real_in range.time_step g.dt_us && real_in range.duration g.duration_ms)

-- 5 more than 1,000,000 steps
unfoldable pub too_many_steps : DcSwitchingSimulator → Bool
too_many_steps g = ltb most_steps (steps_of g)

-- 6, 7, 8 a field of a station, cable, breaker outside its range
unfoldable pub station_outside : DcSwitchingSimulator → Bool
station_outside g = not (every station_ok (stations_of g))

unfoldable pub cable_outside : DcSwitchingSimulator → Bool
cable_outside g = not (every cable_ok (cables_of g))

unfoldable pub breaker_outside : DcSwitchingSimulator → Bool
breaker_outside g = not (every breaker_ok (breakers_of g))
