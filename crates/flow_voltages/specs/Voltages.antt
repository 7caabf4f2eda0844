-- The passes of document 01.2. Definitions only.
use Rattle.std.specs.Prelude.{ℕ, zero, suc, ◌+◌, ◌-◌, true, false, cond, List, get_or, Float}
use Rattle.std.specs.Float.Ieee.{lt}
use Rattle.lists.specs.Tables.{padded}
use Rattle.float64.specs.Constants.{nought}
use Rattle.grid.specs.Simulator.{blank_station, station_count}
use Rattle.grid.specs.declared.parts.ConverterStation.{ConverterStation}
use Rattle.grid.specs.declared.simulator.DcSwitchingSimulator.{DcSwitchingSimulator}
use Rattle.flow_voltages.specs.declared.voltages.Voltages.{Voltages}
use Rattle.flow_voltages.specs.Constants.{tolerance, most_passes}
use Rattle.conductances.specs.Conductances.{conductances_of}
use Rattle.voltage_moves.specs.Moves.{moved_all}
use Rattle.flow_voltages.specs.Balance.{wanted_powers, mismatches, largest}

-- Up to `left` passes more after k: it stops in the first pass whose largest mismatch is below 1e-6 and returns that pass's number.
module _ (m : List Float) (n : ℕ) (rated p : List Float) where
  abbrev pub largest_at : List Float → Float
  largest_at v = largest (mismatches m p n v) (n - 1)

  abbrev pub after : List Float → List Float
  after v = moved_all m n rated (mismatches m p n v) v

  unfoldable pub passes : ℕ → ℕ → List Float → Voltages
  passes zero k v = record { v_dc_kv = v; converged = false; iterations = k }
  passes (suc left) k v = cond (lt (largest_at v) tolerance) (record { v_dc_kv = v; converged = true; iterations = k + 1 }) (passes left (k + 1) (after v))

-- the passes begin at the rated voltages
abbrev pub rated_voltages : List ConverterStation → ℕ → List Float
rated_voltages stations n = padded 32 n (λ i. (get_or stations i blank_station).v_dc_rated_kv) nought

-- At most 50 passes
unfoldable pub voltages : List ConverterStation → ℕ → List Float → Voltages
voltages stations n m =
    let rated = rated_voltages stations n in
    passes m n rated (wanted_powers stations n) most_passes 0 rated

-- a grid's voltages, whether the passes met the tolerance, and how many there were
abbrev pub voltages_of : DcSwitchingSimulator → Voltages
voltages_of g = voltages g.stations (station_count g.n_stations) (conductances_of g)
