-- The loop of 000's `simulate_fault`: its body as a function on its variables, and their initial values. Definitions only.
use Rattle.std.specs.Prelude.{ℕ, zero, suc, Bool, true, false, not, ◌&&◌, ◌||◌, cond, List, Float}
use Rattle.std.specs.Float.{nan}
use Rattle.std.specs.Float.Ieee.{le}
use Rattle.lists.specs.Tables.{blank, over, padded}
use Rattle.lists.specs.Scans.{each}
use Rattle.float64.specs.Constants.{nought, kilo, milli, pico}
use Rattle.float64.specs.Arithmetic.{◌⊕◌, ◌⊖◌, ◌⊗◌, ◌⊘◌, of}
use Rattle.float64.specs.Choice.{max_of, abs_of}
use Rattle.grid.specs.Simulator.{station_count, breaker_count}
use Rattle.grid.specs.declared.parts.DcFaultEvent.{DcFaultEvent}
use Rattle.grid.specs.declared.simulator.DcSwitchingSimulator.{DcSwitchingSimulator}
use Rattle.timing.specs.Steps.{time_step_ms, duration_ms}
use Rattle.breaker_times.specs.Breakers.{fastest_of}
use Rattle.network.specs.Constants.{million}
use Rattle.network.specs.Network.{drain_of}
use Rattle.state_derivatives.specs.declared.state.DcTransientState.{DcTransientState}
use Rattle.transient.specs.OfGrid.{grid_step}
use Rattle.run_start.specs.Start.{time_at, rated}
use Rattle.fault_circuit.specs.Parameters.{parameters_of}
use Rattle.fault_circuit.specs.Circuit.{circuit_of}
use Rattle.fault_current.specs.Current.{rlc_current, decayed_of}
use Rattle.fault_plan.specs.declared.variables.FaultVariables.{FaultVariables}
use Rattle.recovery.specs.Constants.{recovered_part}
use Rattle.recovery.specs.Recovery.{recovering}

-- what the body reads and does not change
pub record Setting : Type 0 where
  -- how many stations, and their rated voltages
  pub stations : ℕ
  pub rated : ℕ → Float
  -- dt_ms, the duration, breaker_clear_ms, and the fault's inception
  pub dt : Float
  pub duration : Float
  pub clear : Float
  pub inception : Float
  -- r_fault + r_total_ohm
  pub resistance : Float
  -- rk4_step(&state, dt_s, Some(fault))
  pub rk4 : DcTransientState → DcTransientState
  -- the fault's current at a time
  pub current : Float → Float
  -- what is left of a current, cleared at a time, at another
  pub left : (current clearing t : Float) → Float

-- "Track di/dt", in kA/ms, from the step before
abbrev pub di_dt : (dt i previous : Float) → Float
di_dt dt i previous = abs_of (i ⊖ previous) ⊘ max_of dt pico

-- "I²R·dt" of one step, in MJ
abbrev pub dissipated : (dt resistance i : Float) → Float
dissipated dt resistance i = (i ⊗ kilo) ⊗ (i ⊗ kilo) ⊗ resistance ⊗ (dt ⊗ milli) ⊘ million

-- a step that changes the time, the fault's current and whether the fault is active, and nothing else
abbrev pub timed : (t current : Float) → (active : Bool) → FaultVariables → FaultVariables
timed t current active v =
    record {
      state =
          record {
            time_ms = t;
            y = v.state.y;
            station_currents_ka = v.state.station_currents_ka;
            fault_current_ka = current;
            breaker_states = v.state.breaker_states;
          };
      peak_fault_ka = v.peak_fault_ka;
      max_di_dt = v.max_di_dt;
      energy_mj = v.energy_mj;
      fault_cleared = v.fault_cleared;
      clearing_time_ms = v.clearing_time_ms;
      voltage_recovery_time_ms = v.voltage_recovery_time_ms;
      prev_fault_current_ka = v.prev_fault_current_ka;
      fault_active = active;
    }

module _ (z : Setting) where
  -- fault_active: it stays once it is set
  abbrev pub active_at : Float → FaultVariables → Bool
  active_at t v = v.fault_active || le z.inception t

  -- ---- the fault is active and not cleared: an RK4 step is made

  -- the breakers clear the fault in this step
  abbrev pub clears_at : Float → Bool
  clears_at t = le z.clear (t ⊖ z.inception)

  unfoldable pub while_faulted : Float → FaultVariables → FaultVariables
  while_faulted t v =
      let i = z.current t in
      let s = z.rk4 v.state in
      record {
        state =
            record {
              time_ms = t;
              y = s.y;
              station_currents_ka = s.station_currents_ka;
              fault_current_ka = i;
              -- "Open all breakers"
              breaker_states = cond (clears_at t) (blank 32 false) v.state.breaker_states;
            };
        peak_fault_ka = max_of v.peak_fault_ka i;
        max_di_dt = max_of v.max_di_dt (di_dt z.dt i v.prev_fault_current_ka);
        energy_mj = v.energy_mj ⊕ dissipated z.dt z.resistance i;
        fault_cleared = clears_at t;
        clearing_time_ms = cond (clears_at t) t v.clearing_time_ms;
        voltage_recovery_time_ms = v.voltage_recovery_time_ms;
        prev_fault_current_ka = i;
        fault_active = true;
      }

  -- ---- the fault is cleared: no RK4 step

  -- a voltage is back at 0.9 of the rated one
  abbrev pub recovered : List Float → ℕ → Bool
  recovered y i = le (recovered_part ⊗ z.rated i) (of y i)

  abbrev pub all_recovered : List Float → Bool
  all_recovered y = each z.stations (recovered y)

  unfoldable pub after_clearing : Float → FaultVariables → FaultVariables
  after_clearing t v =
      record {
        state =
            record {
              time_ms = t;
              y = over z.stations (λ i. recovering (z.rated i) (of v.state.y i)) nan v.state.y;
              station_currents_ka = v.state.station_currents_ka;
              fault_current_ka = z.left v.prev_fault_current_ka v.clearing_time_ms t;
              breaker_states = v.state.breaker_states;
            };
        peak_fault_ka = v.peak_fault_ka;
        max_di_dt = v.max_di_dt;
        energy_mj = v.energy_mj;
        fault_cleared = true;
        clearing_time_ms = v.clearing_time_ms;
        voltage_recovery_time_ms = cond (all_recovered v.state.y && le z.duration v.voltage_recovery_time_ms) t v.voltage_recovery_time_ms;
        prev_fault_current_ka = v.prev_fault_current_ka;
        fault_active = active_at t v;
      }

  -- ---- the fault is not active yet: no RK4 step, only the time

  unfoldable pub before_inception : Float → FaultVariables → FaultVariables
  before_inception t v = timed t v.state.fault_current_ka (active_at t v) v

  -- the body, at the step of a number
  unfoldable pub body : ℕ → FaultVariables → FaultVariables
  body step v =
      let t = time_at z.dt step in
      cond (active_at t v && not v.fault_cleared) (while_faulted t v)
      (cond v.fault_cleared (after_clearing t v)
      (before_inception t v))

-- ---- of a grid

-- what 000 works out ahead of its loop
abbrev pub setting_of : DcSwitchingSimulator → DcFaultEvent → Setting
setting_of g f =
    record {
      stations = g.n_stations;
      rated = rated g.stations;
      dt = time_step_ms g;
      duration = duration_ms g;
      clear = fastest_of g;
      inception = f.inception_time_ms;
      resistance = (parameters_of g f).r_fault_ohm ⊕ (parameters_of g f).r_total_ohm;
      rk4 = λ s. grid_step g (drain_of g f) s (time_step_ms g ⊗ milli);
      current = rlc_current (parameters_of g f) f.fault_type f.inception_time_ms;
      left = decayed_of (circuit_of g f);
    }

unfoldable pub fault_body : DcSwitchingSimulator → DcFaultEvent → ℕ → FaultVariables → FaultVariables
fault_body g f = body (setting_of g f)

-- variables of no step, beside a state: no current yet, the fault neither active nor cleared, and the times of clearing and of recovery at `until`
abbrev pub fresh_variables : DcTransientState → (until : Float) → FaultVariables
fresh_variables s until =
    record {
      state = s;
      peak_fault_ka = nought;
      max_di_dt = nought;
      energy_mj = nought;
      fault_cleared = false;
      clearing_time_ms = until;
      voltage_recovery_time_ms = until;
      prev_fault_current_ka = nought;
      fault_active = false;
    }

-- the initial values of 000's variables: rated voltages, no current, all breakers closed, and both times at the duration
unfoldable pub before_loop : DcSwitchingSimulator → FaultVariables
before_loop g =
    fresh_variables
    (record {
      time_ms = nought;
      y = padded 96 (station_count g.n_stations) (rated g.stations) nought;
      station_currents_ka = blank 32 nought;
      fault_current_ka = nought;
      breaker_states = padded 32 (breaker_count g.n_breakers) (λ _. true) false;
    })
    (duration_ms g)

-- and after its first k steps
unfoldable pub fault_after : DcSwitchingSimulator → DcFaultEvent → ℕ → FaultVariables
fault_after g f zero = before_loop g
fault_after g f (suc k) = fault_body g f k (fault_after g f k)
