-- `solution_at` meets its contract. Assumes nothing.
use Rattle.power_flow.proofs.Points.{points_from, total_from}
use Rattle.power_flow.specs.Flow.{solution_at}
use Rattle.power_flow.specs.Solution.{total_losses}
use Rattle.conductances.specs.Conductances.{conductances_of}
use Rattle.grid.specs.Simulator.{station_count}
use Prim.Native.Nat.{◌≤◌}
use native.Mathlib.Omega.{arith}
use Rattle.power_flow.proofs.flow.solution_at.Goals as goal

pub returns : goal.returns
unfolding solution_at total_losses
returns c =
    let g = c.args.g.now in
    let n = station_count g.n_stations in
    let v = c.args.found.now.voltages.v_dc_kv in
    let few : n ≤ 32 = omega arith in
    let points = points_from g.stations n (conductances_of g) v few c.requires c.operating_points-made.ensures.points in
    let total = total_from g.stations n (conductances_of g) v few c.requires _ c.operating_points-made.ensures.losses in
    rw (c.cable_losses-total.ensures.losses, points, total, c.cable_losses-total.ensures.sum)
