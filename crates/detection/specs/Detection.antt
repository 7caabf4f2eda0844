-- "Detection, `detect_fault` on two states": any doubles, read up to the grid's counts. Definitions only.
use Rattle.std.specs.Prelude.{ℕ, ◌+◌, Bool, false, ◌||◌, cond, List, eqb, get_or, Float}
use Rattle.std.specs.Float.Ieee.{lt}
use Rattle.lists.specs.Scans.{some}
use Rattle.float64.specs.Arithmetic.{◌⊖◌, ◌⊗◌, ◌⊘◌, of}
use Rattle.float64.specs.Choice.{max_of, abs_of}
use Rattle.grid.specs.Simulator.{blank_station}
use Rattle.grid.specs.declared.parts.ConverterStation.{ConverterStation}
use Rattle.grid.specs.declared.simulator.DcSwitchingSimulator.{DcSwitchingSimulator}
use Rattle.network.specs.Network.{station_count, cable_count}
use Rattle.rules.specs.Studies.{detection_refusal}
use Rattle.state_derivatives.specs.declared.state.DcTransientState.{DcTransientState}
use Rattle.detection.specs.Constants.{least_time, fastest, lowest}

-- the time between two states in milliseconds, whichever comes first; at least 1e-9
abbrev pub time_between : Float → Float → Float
time_between t before = max_of (abs_of (t ⊖ before)) least_time

-- a current that changes by more than 10 kA in a millisecond
abbrev pub fast : Float → Float → Float → Bool
fast dt i before = lt fastest (abs_of (i ⊖ before) ⊘ dt)

-- a voltage below 80 percent of rated
abbrev pub low : Float → Float → Bool
low v rated = lt v (lowest ⊗ rated)

abbrev pub low_station : List ConverterStation → List Float → ℕ → Bool
low_station stations y i = low (of y i) (get_or stations i blank_station).v_dc_rated_kv

-- cable currents stand after the voltages
abbrev pub fast_cable : ℕ → Float → List Float → List Float → ℕ → Bool
fast_cable n dt y before k = fast dt (of y (n + k)) (of before (n + k))

unfoldable pub detected : DcSwitchingSimulator → DcTransientState → DcTransientState → Bool
detected g s before =
    some g.n_cables (fast_cable g.n_stations (time_between s.time_ms before.time_ms) s.y before.y)
    || some g.n_stations (low_station g.stations s.y)

-- the same of the voltages and cable currents of two states and their times, by the rated voltages in a table, whatever the counts
unfoldable pub shown_by : List Float → (stations cables : ℕ) → (y earlier : List Float) → (t before : Float) → Bool
shown_by rated stations cables y earlier t before =
    let n = station_count stations in
    some (cable_count cables) (fast_cable n (time_between t before) y earlier)
    || some n (λ i. low (of y i) (of rated i))

-- and of two states
unfoldable pub detected_by : List Float → (stations cables : ℕ) → DcTransientState → DcTransientState → Bool
detected_by rated stations cables s before = shown_by rated stations cables s.y before.y s.time_ms before.time_ms

-- no, where the grid is refused
unfoldable pub detection : DcSwitchingSimulator → DcTransientState → DcTransientState → Bool
detection g s before = cond (eqb (detection_refusal g) 0) (detected g s before) false
