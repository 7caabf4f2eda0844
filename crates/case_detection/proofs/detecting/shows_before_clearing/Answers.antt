-- `shows_before_clearing` meets its contract: the steps that are left, from the numbers, the time and the flag of the last, detect what all of them do. Assumes nothing.
use Rattle.case_detection.proofs.Looks.{look_from, from_open, turned, found, gone, next}
use Prim.Native.Nat.{◌-◌}
use native.Mathlib.Omega.{arith}
use mathlib.Core.Path.{◌≡◌, sym, ◌∙◌}
use Rattle.case_detection.proofs.detecting.shows_before_clearing.Goals as goal

pub returns-then-step-shown : goal.returns-then-step-shown
returns-then-step-shown c =
    let step_turned = turned c.args.plan _ _ _ _ _ _ _ c.step_time_ms-t_ms.ensures c.numbers_after-moved.ensures c.shows_fault-shown.ensures in
    sym (from_open _ _ _ _ c.requires.0 c.requires.1 ∙ sym c.loop-step.invariant ∙ found _ _ _ c.loop-step-test.true step_turned c.if-step-shown.true)

pub returns-then-clears : goal.returns-then-clears
returns-then-clears c =
    let step_turned = turned c.args.plan _ _ _ _ _ _ _ c.step_time_ms-t_ms.ensures c.numbers_after-moved.ensures c.shows_fault-shown.ensures in
    sym (from_open _ _ _ _ c.requires.0 c.requires.1 ∙ sym c.loop-step.invariant ∙ gone _ _ _ c.loop-step-test.true step_turned c.if-step-shown.false c.if-clears.true)

pub loop-step-preserved : goal.loop-step-preserved
loop-step-preserved c =
    let step_turned = turned c.args.plan _ _ _ _ _ _ _ c.step_time_ms-t_ms.ensures c.numbers_after-moved.ensures c.shows_fault-shown.ensures in
    sym (next _ _ _ c.loop-step-test.true step_turned c.if-step-shown.false c.if-clears.false) ∙ c.loop-step.invariant

pub returns : goal.returns
unfolding look_from
returns c =
    let e : c.args.end - c.loop-step.step ≡ 0 = omega (arith, c.loop-step-test.false) in
    sym (from_open _ _ _ _ c.requires.0 c.requires.1 ∙ sym (rw e at c.loop-step.invariant))
