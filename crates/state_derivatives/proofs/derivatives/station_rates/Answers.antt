-- `station_rates` meets its contract. Assumes nothing.
use Rattle.float64.specs.Arithmetic.{◌⊘◌, of}
use Rattle.lists.proofs.Fills.{upto, upto_none, upto_more, upto_over}
use Rattle.lists.proofs.Counting.{at_end_lem}
use Rattle.lists.specs.Tables.{over}
use lib.Ieee.{nan}
use Prim.Native.Nat.{ℕ}
use mathlib.Core.Path.{ap, ◌∙◌}
use Rattle.state_derivatives.proofs.derivatives.station_rates.Goals as goal

pub loop-i-init : goal.loop-i-init
loop-i-init c = upto_none _ _

pub loop-i-preserved : goal.loop-i-preserved
loop-i-preserved c =
    upto_more _ _ _ c.loop-i.invariant c.station_rate.ensures

pub returns : goal.returns
returns c =
    let dy = c.args.dy.now in
    let f = λ (i : ℕ). of c.args.nets.now i ⊘ of c.args.network.now.capacitance_f i in
    at_end_lem (λ k. upto k f dy) c.loop-i.auto.i-end c.loop-i-test.false c.loop-i.invariant
    ∙ upto_over c.of-n.result.value f nan dy
    ∙ ap (λ (n : ℕ). over n f nan dy) c.of-n.ensures
