-- The loop of 000's `simulate_switching`: its body as a function on its variables, and their initial values. Definitions only.
use Rattle.std.specs.Prelude.{ℕ, zero, suc, ◌+◌, ◌-◌, Bool, false, not, ◌&&◌, ◌||◌, cond, List, eqb, ltb, leb, get_or, Float}
use Rattle.std.specs.Float.{nan}
use Rattle.std.specs.Float.Ieee.{le}
use Rattle.lists.specs.Tables.{blank, over, padded}
use Rattle.float64.specs.Constants.{nought, half, milli}
use Rattle.float64.specs.Arithmetic.{◌⊖◌, ◌⊗◌, ◌⊘◌, of}
use Rattle.grid.specs.Simulator.{blank_cable, breaker_count}
use Rattle.grid.specs.Cables.{resistance, cut}
use Rattle.grid.specs.declared.parts.ConverterStation.{ConverterStation}
use Rattle.grid.specs.declared.parts.DcCable.{DcCable}
use Rattle.grid.specs.declared.simulator.DcSwitchingSimulator.{DcSwitchingSimulator}
use Rattle.timing.specs.Steps.{time_step_ms, duration_ms}
use Rattle.network.specs.Network.{no_drain, station_count, cable_count}
use Rattle.state_derivatives.specs.declared.state.DcTransientState.{DcTransientState}
use Rattle.transient.specs.OfGrid.{grid_step}
use Rattle.switching_plan.specs.declared.variables.SwitchingVariables.{SwitchingVariables}
use Rattle.switching_plan.specs.Constants.{switching_part}
use Rattle.run_start.specs.Start.{time_at, rated}

-- what the body reads and does not change
pub record SwitchSetting : Type 0 where
  pub stations : ℕ
  pub cables : ℕ
  pub breakers : ℕ
  -- breaker_id, and whether it opens
  pub number : ℕ
  pub opens : Bool
  -- dt_ms and switching_time_ms
  pub dt : Float
  pub switching : Float
  -- rk4_step(&state, dt_s, None)
  pub rk4 : DcTransientState → DcTransientState

-- "a breaker number at or past the count means all"
abbrev pub is_operated : (count number : ℕ) → ℕ → Bool
is_operated count number i = eqb i number || leb count number

-- the operation sets the breaker, or all of them
abbrev pub breakers_after : (count number : ℕ) → (opens : Bool) → List Bool → List Bool
breakers_after count number opens closed = over count (λ i. cond (is_operated count number i) (not opens) (get_or closed i false)) false closed

-- opening halves the currents of m cables, which stand after the voltages of n stations
abbrev pub interrupted : (n m : ℕ) → List Float → List Float
interrupted n m y = over (n + m) (λ i. cond (ltb i n) (of y i) (of y i ⊗ half)) nan y

module _ (z : SwitchSetting) where
  -- "switch at 10% of duration", once
  abbrev pub switches_at : Float → SwitchingVariables → Bool
  switches_at t v = not v.switched && le z.switching t

  -- the state that the step starts from
  unfoldable pub operated_state : Float → SwitchingVariables → DcTransientState
  operated_state t v =
      record {
        time_ms = t;
        y = cond (switches_at t v && z.opens) (interrupted z.stations z.cables v.state.y) v.state.y;
        station_currents_ka = v.state.station_currents_ka;
        fault_current_ka = v.state.fault_current_ka;
        breaker_states = cond (switches_at t v) (breakers_after z.breakers z.number z.opens v.state.breaker_states) v.state.breaker_states;
      }

  -- the body, at the step of a number
  unfoldable pub switch_body : ℕ → SwitchingVariables → SwitchingVariables
  switch_body step v =
      let t = time_at z.dt step in
      record {
        state = z.rk4 (operated_state t v);
        switched = v.switched || le z.switching t;
      }

-- ---- of a grid

-- what 000 works out ahead of its loop
abbrev pub switch_setting_of : DcSwitchingSimulator → ℕ → Bool → SwitchSetting
switch_setting_of g number opens =
    record {
      stations = g.n_stations;
      cables = g.n_cables;
      breakers = g.n_breakers;
      number = number;
      opens = opens;
      dt = time_step_ms g;
      switching = duration_ms g ⊗ switching_part;
      rk4 = λ s. grid_step g no_drain s (time_step_ms g ⊗ milli);
    }

unfoldable pub switching_body : DcSwitchingSimulator → ℕ → Bool → ℕ → SwitchingVariables → SwitchingVariables
switching_body g number opens = switch_body (switch_setting_of g number opens)

-- the current of a cable before the loop: from the rated voltages of the stations at its ends, cut to the last of n
abbrev pub driven_current : List ConverterStation → ℕ → DcCable → Float
driven_current stations n c = (rated stations (cut n c.from_station) ⊖ rated stations (cut n c.to_station)) ⊘ resistance c

-- number i of the state before the loop: a voltage, or a current after the n voltages
abbrev pub driven : List ConverterStation → List DcCable → ℕ → ℕ → Float
driven stations cables n i = cond (ltb i n) (rated stations i) (driven_current stations n (get_or cables (i - n) blank_cable))

-- the initial values of 000's variables: "breakers begin at the state that the operation then sets"
unfoldable pub before_switching : DcSwitchingSimulator → Bool → SwitchingVariables
before_switching g opens =
    record {
      state =
          record {
            time_ms = nought;
            y = padded 96 (station_count g.n_stations + cable_count g.n_cables) (driven g.stations g.cables (station_count g.n_stations)) nought;
            station_currents_ka = blank 32 nought;
            fault_current_ka = nought;
            breaker_states = padded 32 (breaker_count g.n_breakers) (λ _. not opens) false;
          };
      switched = false;
    }

-- and after its first k steps
unfoldable pub switching_after : DcSwitchingSimulator → ℕ → Bool → ℕ → SwitchingVariables
switching_after g number opens zero = before_switching g opens
switching_after g number opens (suc k) = switching_body g number opens k (switching_after g number opens k)
