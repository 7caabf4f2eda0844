-- `moved_numbers` meets its contract. Assumes nothing.
use Rattle.transient.proofs.Stages.{rk4_staged, rk4-raised}
use Rattle.state_derivatives.specs.Derivatives.{slopes, stations_in, cables_in}
use Rattle.transient.specs.Rk4.{blended}
use Rattle.float64.specs.Constants.{nought}
use Rattle.float64.specs.Arithmetic.{◌⊘◌, of}
use Rattle.network.specs.Constants.{six}
use Rattle.float64.specs.Choice.{max_of}
use Rattle.lists.specs.Tables.{over}
use Prim.Native.Nat.{◌+◌}
use mathlib.Core.Path.{◌∙◌}
use lib.Ieee.{nan}
use Rattle.transient.proofs.rk4.moved_numbers.Goals as goal

-- the four stages, their blend, and the voltages raised
pub returns : goal.returns
returns c =
    let w = c.args.network.now in
    let y = c.args.start.y in
    let stages =
    rk4_staged
    (stations_in w + cables_in w)
    (slopes w c.args.drain)
    c.args.dt_s
    y
    c.state_derivatives-k1.ensures
    c.slopes_ahead-k2.ensures
    c.slopes_ahead-k3.ensures
    c.slopes_ahead-k4.ensures
    (c.blend-moved.ensures ∙ λ i. blended (c.numbers_in.ensures i) y (c.args.dt_s ⊘ six) c.state_derivatives-k1.result.dy c.slopes_ahead-k2.result.dy c.slopes_ahead-k3.result.dy c.slopes_ahead-k4.result.dy) in
    c.raise_voltages.ensures
    ∙ (λ i. over (c.of.ensures i) (λ k. max_of (of (stages i) k) nought) nan (stages i))
    ∙ rk4-raised (stations_in w) (cables_in w) (slopes w c.args.drain) c.args.dt_s y
