-- 000's flow as a function of a grid. Definitions only.
use Rattle.std.specs.Prelude.{false, cond, eqb, replicate}
use Rattle.float64.specs.Constants.{nought}
use Rattle.grid.specs.Simulator.{station_count, cable_count}
use Rattle.grid.specs.declared.simulator.DcSwitchingSimulator.{DcSwitchingSimulator}
use Rattle.rules.specs.Studies.{flow_refusal}
use Rattle.converter.specs.Point.{blank_point}
use Rattle.flow_voltages.specs.declared.voltages.Voltages.{Voltages}
use Rattle.conductances.specs.Conductances.{conductances_of}
use Rattle.flow_voltages.specs.Voltages.{voltages_of}
use Rattle.power_flow.specs.declared.flow.DcGridSolution.{DcGridSolution}
use Rattle.power_flow.specs.Solution.{operating_points, cable_losses, total_losses}

-- a grid's points and losses at voltages
unfoldable pub solution_at : DcSwitchingSimulator → Voltages → DcGridSolution
solution_at g found =
    let n = station_count g.n_stations in
    let m = conductances_of g in
    let v = found.v_dc_kv in
    record {
      operating_points = operating_points g.stations n m v;
      cable_losses_mw = cable_losses g.cables (cable_count g.n_cables) n v;
      total_losses_mw = total_losses g.stations n g.cables (cable_count g.n_cables) m v;
      converged = found.converged;
      iterations = found.iterations;
    }

-- at the voltages that the passes find
abbrev pub solution_of : DcSwitchingSimulator → DcGridSolution
solution_of g = solution_at g (voltages_of g)

abbrev pub blank_solution : DcGridSolution
blank_solution = record { operating_points = replicate 32 blank_point; cable_losses_mw = replicate 64 nought; total_losses_mw = nought; converged = false; iterations = 0 }

-- the solution where the grid is accepted, else all zeros
unfoldable pub flow_answer : DcSwitchingSimulator → DcGridSolution
flow_answer g = cond (eqb (flow_refusal g) 0) (solution_of g) blank_solution
