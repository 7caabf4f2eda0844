-- `operating_points` meets its contract. Assumes nothing.
use Rattle.power_flow.specs.Solution.{operating_point}
use Rattle.converter.specs.Point.{blank_point}
use Rattle.grid.specs.Simulator.{blank_station}
use Rattle.float64.specs.Arithmetic.{added_up, of}
use lib.ListN.{get_or}
use mathlib.Core.Path.{◌≡◌}
use Rattle.lists.specs.Tables.{blank}
use Rattle.lists.proofs.Fills.{upto}
use Rattle.power_flow.proofs.solution.operating_points.Given as goal

abbrev pub invariant-loop-i : goal.invariant-loop-i
invariant-loop-i l =
    (l.points ≡ upto l.i (λ k. operating_point (get_or l.g.stations k blank_station) (of l.found.voltages.v_dc_kv k) (of l.found.i_dc_ka k)) (blank 32 blank_point)) × (l.total ≡ added_up l.losses (λ k. (operating_point (get_or l.g.stations k blank_station) (of l.found.voltages.v_dc_kv k) (of l.found.i_dc_ka k)).losses_mw) l.i)
