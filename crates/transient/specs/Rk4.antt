-- "Classical RK4, 1/6 (k1+2k2+2k3+k4). New voltages are at least 0." Definitions only.
use Rattle.std.specs.Prelude.{ℕ, ◌+◌, cond, List, ltb, Float}
use Rattle.lists.specs.Tables.{padded}
use Rattle.float64.specs.Constants.{nought, two, half}
use Rattle.float64.specs.Arithmetic.{◌⊕◌, ◌⊗◌, ◌⊘◌, of}
use Rattle.float64.specs.Choice.{max_of}
use Rattle.network.specs.declared.network.Network.{Network}
use Rattle.network.specs.declared.network.Drain.{Drain}
use Rattle.state_derivatives.specs.declared.state.DcTransientState.{DcTransientState}
use Rattle.network.specs.Constants.{six}
use Rattle.network.specs.Network.{end}
use Rattle.state_derivatives.specs.Derivatives.{net, stations_in, cables_in, slopes}

-- y + h·k, of a state of `size` numbers
unfoldable pub ahead : ℕ → List Float → Float → List Float → List Float
ahead size y h k = padded 96 size (λ i. of y i ⊕ h ⊗ of k i) nought

-- k1 + 2·k2 + 2·k3 + k4
abbrev pub weighted : Float → Float → Float → Float → Float
weighted k1 k2 k3 k4 = k1 ⊕ two ⊗ k2 ⊕ two ⊗ k3 ⊕ k4

-- y + sixth·(k1 + 2·k2 + 2·k3 + k4)
unfoldable pub blended : ℕ → List Float → Float → List Float → List Float → List Float → List Float → List Float
blended size y sixth k1 k2 k3 k4 = padded 96 size (λ i. of y i ⊕ sixth ⊗ weighted (of k1 i) (of k2 i) (of k3 i) (of k4 i)) nought

-- Classical Runge-Kutta for dy/dt = f(y), of a state of `size` numbers: k1 at the start, k2 and k3 half a step on, k4 a whole step on, and y + dt/6·(k1 + 2·k2 + 2·k3 + k4).
unfoldable pub rk4 : ℕ → (List Float → List Float) → Float → List Float → List Float
rk4 size f dt y =
    let k1 = f y in
    let k2 = f (ahead size y (half ⊗ dt) k1) in
    let k3 = f (ahead size y (half ⊗ dt) k2) in
    let k4 = f (ahead size y dt k3) in
    blended size y (dt ⊘ six) k1 k2 k3 k4

module _ (n m : ℕ) where
  -- the numbers of a state of n stations and m cables with the voltages raised to 0
  unfoldable pub raised : List Float → List Float
  raised y = padded 96 (n + m) (λ i. cond (ltb i n) (max_of (of y i) nought) (of y i)) nought

  -- those after a step with the rates f
  unfoldable pub new_state : (List Float → List Float) → Float → List Float → List Float
  new_state f dt y = raised (rk4 (n + m) f dt y)

  -- the station currents after it, of cables from `from` to `to`
  abbrev pub currents_after : (ℕ → ℕ) → (ℕ → ℕ) → (List Float → List Float) → Float → List Float → List Float
  currents_after from to f dt y = padded 32 n (net from to n (new_state f dt y) m) nought

  -- the state after it: new voltages and cable currents, station currents from these, all else as it was
  unfoldable pub step_by : (ℕ → ℕ) → (ℕ → ℕ) → (List Float → List Float) → DcTransientState → Float → DcTransientState
  step_by from to f s dt =
      record {
        time_ms = s.time_ms;
        y = new_state f dt s.y;
        station_currents_ka = currents_after from to f dt s.y;
        fault_current_ka = s.fault_current_ka;
        breaker_states = s.breaker_states;
      }

-- with the tables of a network, and what a fault drains
abbrev pub rk4_step : Network → Drain → DcTransientState → Float → DcTransientState
rk4_step w d s dt = step_by (stations_in w) (cables_in w) (end w.from) (end w.to) (slopes w d) s dt
