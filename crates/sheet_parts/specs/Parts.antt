-- A grid with a part more, as the code does it; `SheetClaims` says that this gives `sheet_answer`. Definitions only.
use Rattle.std.specs.Prelude.{ℕ, ◌+◌, cond, ltb, set}
use Rattle.grid.specs.declared.parts.ConverterStation.{ConverterStation}
use Rattle.grid.specs.declared.parts.DcCable.{DcCable}
use Rattle.grid.specs.declared.parts.DcBreaker.{DcBreaker}
use Rattle.grid.specs.declared.simulator.DcSwitchingSimulator.{DcSwitchingSimulator}
use Rattle.whole_sheets.specs.Sheets.{most_lines}

-- one more, up to the number of lines that are read
unfoldable pub counted_on : ℕ → ℕ
counted_on n = cond (ltb n most_lines) (n + 1) n

-- ---- a grid with a part more: counted, and kept where there is room

unfoldable pub station_taken : DcSwitchingSimulator → ConverterStation → DcSwitchingSimulator
station_taken g s =
    record {
      stations = cond (ltb g.n_stations 32) (set g.stations g.n_stations s) g.stations;
      cables = g.cables;
      breakers = g.breakers;
      n_stations = counted_on g.n_stations;
      n_cables = g.n_cables;
      n_breakers = g.n_breakers;
      dt_us = g.dt_us;
      duration_ms = g.duration_ms;
    }

unfoldable pub cable_taken : DcSwitchingSimulator → DcCable → DcSwitchingSimulator
cable_taken g c =
    record {
      stations = g.stations;
      cables = cond (ltb g.n_cables 64) (set g.cables g.n_cables c) g.cables;
      breakers = g.breakers;
      n_stations = g.n_stations;
      n_cables = counted_on g.n_cables;
      n_breakers = g.n_breakers;
      dt_us = g.dt_us;
      duration_ms = g.duration_ms;
    }

unfoldable pub breaker_taken : DcSwitchingSimulator → DcBreaker → DcSwitchingSimulator
breaker_taken g b =
    record {
      stations = g.stations;
      cables = g.cables;
      breakers = cond (ltb g.n_breakers 32) (set g.breakers g.n_breakers b) g.breakers;
      n_stations = g.n_stations;
      n_cables = g.n_cables;
      n_breakers = counted_on g.n_breakers;
      dt_us = g.dt_us;
      duration_ms = g.duration_ms;
    }
