-- `add_currents` meets its contract. Assumes nothing.
use Rattle.network.specs.Network.{end}
use Rattle.state_derivatives.specs.Derivatives.{passed}
use Rattle.state_derivatives.proofs.Stages.{front_over, nets_long, nets_none, nets_more}
use Rattle.lists.specs.Tables.{blank}
use Rattle.float64.specs.Arithmetic.{of}
use Prim.Native.Nat.{◌≤◌, ◌+◌}
use lib.ListN.{length, drop}
use mathlib.Core.List.{◌++◌}
use native.Mathlib.Omega.{arith}
use mathlib.Core.Path.{ap, ◌∙◌}
use Rattle.state_derivatives.proofs.derivatives.add_currents.Goals as goal

pub loop-k-init : goal.loop-k-init
loop-k-init c =
    rw c.requires (nets_none (end c.args.network.now.from) (end c.args.network.now.to) _ c.args.y.now)

pub loop-k-preserved : goal.loop-k-preserved
loop-k-preserved c =
    let w = c.args.network.now in
    let n = c.of-n.result.value in
    let y = c.args.y.now in
    let k = c.loop-k.k in
    let few : n ≤ 32 = omega (arith, c.of-n.ensures) in
    ap (λ x. x ++ drop n c.loop-k.nets) c.pass_current.ensures
    ∙ front_over n (passed (end w.from k) (end w.to k) (of y (n + k))) c.loop-k.nets (omega (arith, ap length c.loop-k.invariant, nets_long (end w.from) (end w.to) n y k))
    ∙ rw c.loop-k.invariant (nets_more (end w.from) (end w.to) n y k few)
