-- `drive_currents` meets its contract. Assumes nothing.
use Rattle.switching_plan.specs.Switching.{driven_current, driven}
use Rattle.grid.specs.declared.parts.DcCable.{DcCable}
use Rattle.grid.specs.Simulator.{blank_cable}
use Rattle.float64.specs.Constants.{nought}
use Rattle.lists.proofs.Fills.{upto, upto_more, upto_padded, padded_same, get_d_within}
use Rattle.lists.proofs.Counting.{at_end_lem}
use Rattle.lists.specs.Tables.{blank}
use borrow.Author.Tests.{lt-ltb, le-ltb}
use lib.ListN.{length}
use native.Mathlib.Omega.{arith}
use Prim.Native.Nat.{◌+◌, ◌-◌}
use mathlib.Core.Path.{◌≡◌, sym, ap, ◌∙◌}
use Rattle.switching_plan.proofs.plan.drive_currents.Goals as goal

pub loop-k-init : goal.loop-k-init
loop-k-init c =
    let n = c.args.n.value in
    let none : n + 0 ≡ n = omega arith in
    rw none (c.requires.voltages ∙ padded_same 96 n _ (driven c.args.stations.now c.args.cables.now n) nought (λ k l. rw (lt-ltb k n l)) ∙ sym (upto_padded n 96 _ nought (omega arith)))

pub loop-k-preserved : goal.loop-k-preserved
loop-k-preserved c =
    let n = c.args.n.value in
    let k = c.loop-k.k in
    let at : n + k - n ≡ k = omega arith in
    let more : n + (k + 1) ≡ n + k + 1 = omega arith in
    let same = get_d_within c.args.cables.now k _ blank_cable c.loop-k-test.true in
    rw more (upto_more _ _ (n + k) c.loop-k.invariant (c.driven_current.ensures ∙ ap (λ (x : DcCable). driven_current c.args.stations.now n x) same ∙ rw (le-ltb (n + k) n (omega arith), at)))

pub returns : goal.returns
returns c =
    let n = c.args.n.value in
    at_end_lem (λ k. upto (n + k) (driven c.args.stations.now c.args.cables.now n) (blank 96 nought)) c.loop-k.auto.k-end c.loop-k-test.false c.loop-k.invariant
    ∙ upto_padded (n + length c.args.cables.now) 96 _ nought c.requires.room
