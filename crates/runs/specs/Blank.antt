-- What stands beside a refusal: all zero and false. Definitions only.
use Rattle.std.specs.Prelude.{false}
use Rattle.lists.specs.Tables.{blank}
use Rattle.float64.specs.Constants.{nought}
use Rattle.grid.specs.Simulator.{without_parts}
use Rattle.grid.specs.declared.simulator.DcSwitchingSimulator.{DcSwitchingSimulator}
use Rattle.state_derivatives.specs.declared.state.DcTransientState.{DcTransientState}

-- no parts, and a time step and a duration of zero, which `new` would raise
abbrev pub blank_grid : DcSwitchingSimulator
blank_grid = without_parts nought nought

abbrev pub blank_state : DcTransientState
blank_state =
    record {
      time_ms = nought;
      y = blank 96 nought;
      station_currents_ka = blank 32 nought;
      fault_current_ka = nought;
      breaker_states = blank 32 false;
    }
