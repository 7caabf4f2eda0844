-- 000's `rk4_step` as a function of a grid: what the network's tables hold, read from the grid itself. Definitions only.
use Rattle.std.specs.Prelude.{Float}
use Rattle.grid.specs.declared.simulator.DcSwitchingSimulator.{DcSwitchingSimulator}
use Rattle.network.specs.declared.network.Drain.{Drain}
use Rattle.state_derivatives.specs.declared.state.DcTransientState.{DcTransientState}
use Rattle.state_derivatives.specs.OfGrid.{from_of, to_of, grid_derivatives}
use Rattle.transient.specs.Rk4.{step_by}

abbrev pub grid_step : DcSwitchingSimulator → Drain → DcTransientState → Float → DcTransientState
grid_step g d s dt = step_by g.n_stations g.n_cables (from_of g) (to_of g) (grid_derivatives g d) s dt
