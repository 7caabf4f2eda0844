-- What document 01.3 says of the step in words, and what a reader expects beside the definitions. The proofs are in proofs/Claims.antt.
use Rattle.std.specs.Prelude.{ℕ, ◌+◌, ◌≤◌, ◌<◌, ◌≡◌, true, List, Float}
use Rattle.std.specs.Float.Ieee.{le}
use Rattle.float64.specs.Constants.{nought, two, half}
use Rattle.float64.specs.Arithmetic.{◌⊕◌, ◌⊖◌, ◌⊗◌, ◌⊘◌, of}
use Rattle.float64.specs.Choice.{max_of}
use Rattle.grid.specs.declared.simulator.DcSwitchingSimulator.{DcSwitchingSimulator}
use Rattle.network.specs.declared.network.Network.{Network}
use Rattle.network.specs.declared.network.Drain.{Drain}
use Rattle.state_derivatives.specs.declared.state.DcTransientState.{DcTransientState}
use Rattle.network.specs.Constants.{six}
use Rattle.network.specs.Network.{network_of, no_drain}
use Rattle.state_derivatives.specs.Derivatives.{stations_in, cables_in, slopes}
use Rattle.transient.specs.Rk4.{ahead, rk4, rk4_step}
use Rattle.transient.specs.OfGrid.{grid_step}

-- what is worked out once for a grid changes no step
pub record NetworkClaims : Type 0 where
  pub step : (g : DcSwitchingSimulator) (d : Drain) (s : DcTransientState) (dt : Float) → g.n_stations ≤ 32 → g.n_cables ≤ 64 → rk4_step (network_of g) d s dt ≡ grid_step g d s dt

-- "Classical RK4, 1/6 (k1+2k2+2k3+k4)": number i of y + dt/6·(k1 + 2·k2 + 2·k3 + k4), whatever the rates f; k1 at the start, k2 and k3 half a step on, k4 a whole step on
abbrev pub classical_at : (size : ℕ) → (f : List Float → List Float) → (dt : Float) → (y : List Float) → (i : ℕ) → Float
classical_at size f dt y i =
    let k1 = f y in
    let k2 = f (ahead size y (half ⊗ dt) k1) in
    let k3 = f (ahead size y (half ⊗ dt) k2) in
    let k4 = f (ahead size y dt k3) in
    of y i ⊕ (dt ⊘ six) ⊗ (of k1 i ⊕ two ⊗ of k2 i ⊕ two ⊗ of k3 i ⊕ of k4 i)

pub record StepClaims : Type 0 where
  pub classical : (size : ℕ) (f : List Float → List Float) (dt : Float) (y : List Float) (i : ℕ) → i < size → size ≤ 96 → of (rk4 size f dt y) i ≡ classical_at size f dt y i
  -- "New voltages are at least 0": a new voltage is the classical value, or 0 where that is less
  pub new_voltages : (w : Network) (d : Drain) (s : DcTransientState) (dt : Float) (i : ℕ) → i < stations_in w
      → of (rk4_step w d s dt).y i ≡ max_of (classical_at (stations_in w + cables_in w) (slopes w d) dt s.y i) nought
  -- and so at least 0 of any doubles, NaN among them
  pub voltages : (w : Network) (d : Drain) (s : DcTransientState) (dt : Float) (i : ℕ) → i < stations_in w → le nought (of (rk4_step w d s dt).y i) ≡ true
  -- a cable's new current is the classical value
  pub cable_currents : (w : Network) (d : Drain) (s : DcTransientState) (dt : Float) (k : ℕ) → k < cables_in w
      → let n = stations_in w in
      of (rk4_step w d s dt).y (n + k) ≡ classical_at (n + cables_in w) (slopes w d) dt s.y (n + k)
  -- what stands past the counts is zero
  pub past : (w : Network) (d : Drain) (s : DcTransientState) (dt : Float) (i : ℕ) → stations_in w + cables_in w ≤ i → i < 96 → of (rk4_step w d s dt).y i ≡ nought
