-- `cable_rates` meets its contract. Assumes nothing.
use Rattle.network.specs.Network.{end}
use Prim.Native.Nat.{◌<◌, ◌+◌}
use Rattle.state_derivatives.proofs.Stages.{after}
use lib.Ieee.{nan}
use native.Mathlib.Nat.{add_assoc}
use borrow.Author.Tests.{lt-ltb}
use Rattle.state_derivatives.specs.Derivatives.{cable_rate}
use Rattle.float64.specs.Arithmetic.{of}
use Rattle.lists.proofs.Fills.{upto, upto_kept, upto_more, upto_over}
use Rattle.lists.specs.Tables.{over}
use Rattle.lists.proofs.Counting.{at_end_lem}
use native.Mathlib.Omega.{arith}
use mathlib.Core.Path.{◌≡◌, ◌∙◌}
use Rattle.state_derivatives.proofs.derivatives.cable_rates.Invariants.{rates}
use Rattle.state_derivatives.proofs.derivatives.cable_rates.Goals as goal

pub loop-k-init : goal.loop-k-init
loop-k-init c =
    upto_kept (c.of-n.result.value + 0) (rates c.args.dy.now c.args.network.now c.of-n.result.value c.args.y.now) nan c.args.dy.now (λ i l. let h : i < c.of-n.result.value = omega arith in rw (lt-ltb i c.of-n.result.value h))

pub loop-k-preserved : goal.loop-k-preserved
loop-k-preserved c =
    let w = c.args.network.now in
    let n = c.of-n.result.value in
    let y = c.args.y.now in
    let k = c.loop-k.k in
    let f = rates c.args.dy.now w n y in
    let e : _ ≡ f (n + k) = c.cable_rate.ensures ∙ rw (c.cut_end-in-loop-k.ensures, c.cut_end.ensures) (after (of c.args.dy.now) (cable_rate (end w.from) (end w.to) (of w.resistance_ohm) (of w.inductance_h) n y) n k) in
    rw (← add_assoc) (upto_more f c.args.dy.now (n + k) c.loop-k.invariant e)

pub returns : goal.returns
returns c =
    let dy = c.args.dy.now in
    let w = c.args.network.now in
    let y = c.args.y.now in
    let n = c.of-n.result.value in
    let f = rates dy w n y in
    at_end_lem (λ k. upto (n + k) f dy) c.loop-k.auto.k-end c.loop-k-test.false c.loop-k.invariant
    ∙ upto_over (n + c.of-m.result.value) f nan dy
    ∙ λ i. over (c.of-n.ensures i + c.of-m.ensures i) (rates dy w (c.of-n.ensures i) y) nan dy
