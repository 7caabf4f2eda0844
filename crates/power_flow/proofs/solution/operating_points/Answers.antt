-- `operating_points` meets its contract. Assumes nothing.
use Rattle.converter.specs.declared.point.ConverterOperatingPoint.{ConverterOperatingPoint}
use Rattle.power_flow.specs.Solution.{operating_point}
use Rattle.converter.specs.Point.{blank_point}
use Rattle.grid.specs.Simulator.{blank_station}
use Rattle.float64.specs.Arithmetic.{of}
use lib.ListN.{get_or}
use mathlib.Core.Path.{◌∙◌}
use Prim.Native.Nat.{ℕ}
use Rattle.lists.specs.Tables.{blank}
use Rattle.lists.proofs.Counting.{at_end_lem}
use Rattle.lists.proofs.Fills.{upto, upto_padded}
use Rattle.power_flow.proofs.solution.operating_points.Goals as goal

pub returns-clause-points : goal.returns-clause-points
returns-clause-points c =
    let f : ℕ → ConverterOperatingPoint = λ k. operating_point (get_or c.args.g.now.stations k blank_station) (of c.args.found.now.voltages.v_dc_kv k) (of c.args.found.now.i_dc_ka k) in
    at_end_lem (λ k. upto k f (blank 32 blank_point)) c.loop-i.auto.i-end c.loop-i-test.false c.loop-i.invariant.0 ∙ upto_padded c.of-n.result.value 32 _ blank_point c.of-n.result.fits ∙ rw c.of-n.ensures
