-- What document 01.2 says of the passes in words, and what a reader expects beside the definitions. The proofs are in proofs/Claims.antt.
use Rattle.std.specs.Prelude.{ℕ, zero, suc, ◌<◌, ◌≡◌, true, false, List, Float}
use Rattle.std.specs.Float.Ieee.{lt}
use Rattle.grid.specs.Simulator.{station_count}
use Rattle.grid.specs.declared.simulator.DcSwitchingSimulator.{DcSwitchingSimulator}
use Rattle.flow_voltages.specs.declared.voltages.Voltages.{Voltages}
use Rattle.flow_voltages.specs.Constants.{tolerance}
use Rattle.conductances.specs.Conductances.{conductances_of}
use Rattle.flow_voltages.specs.Balance.{wanted_powers}
use Rattle.flow_voltages.specs.Voltages.{largest_at, after, rated_voltages, voltages_of}

-- a grid's voltages after k passes, and the largest mismatch that the next pass sees
unfoldable pub voltages_after : DcSwitchingSimulator → ℕ → List Float
voltages_after g zero = rated_voltages g.stations (station_count g.n_stations)
voltages_after g (suc k) =
    after (conductances_of g) (station_count g.n_stations) (rated_voltages g.stations (station_count g.n_stations)) (wanted_powers g.stations (station_count g.n_stations)) (voltages_after g k)

abbrev pub mismatch_after : DcSwitchingSimulator → ℕ → Float
mismatch_after g k = largest_at (conductances_of g) (station_count g.n_stations) (rated_voltages g.stations (station_count g.n_stations)) (wanted_powers g.stations (station_count g.n_stations)) (voltages_after g k)

-- "it stops in the first pass whose largest mismatch is below 1e-6 and returns that pass's number": k passes moved the voltages, and the one after them stopped
pub record Stops (g : DcSwitchingSimulator) (found : Voltages) : Type 0 where
  pub k : ℕ
  pub number : found.iterations ≡ suc k
  pub within_50 : k < 50
  pub voltages : found.v_dc_kv ≡ voltages_after g k
  pub below : lt (mismatch_after g k) tolerance ≡ true
  pub not_before : (j : ℕ) → j < k → lt (mismatch_after g j) tolerance ≡ false

-- "At most 50 passes"
pub record Spent (g : DcSwitchingSimulator) (found : Voltages) : Type 0 where
  pub number : found.iterations ≡ 50
  pub voltages : found.v_dc_kv ≡ voltages_after g 50
  pub never_below : (j : ℕ) → j < 50 → lt (mismatch_after g j) tolerance ≡ false

pub record PassClaims : Type 0 where
  pub converged : (g : DcSwitchingSimulator) → (voltages_of g).converged ≡ true → Stops g (voltages_of g)
  pub not_converged_lem : (g : DcSwitchingSimulator) → (voltages_of g).converged ≡ false → Spent g (voltages_of g)
