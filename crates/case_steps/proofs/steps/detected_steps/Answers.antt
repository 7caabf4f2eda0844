-- `detected_steps` meets its contract: the steps that are left lead from the variables, with a step detected, to where all of them lead. Assumes nothing.
use mathlib.Core.Path.{◌∙◌}
use Rattle.case_steps.specs.Plans.{plan_case_step}
use Rattle.case_steps.proofs.Left.{one_more}
use Rattle.case_steps.proofs.steps.detected_steps.Invariants.{with}
use Rattle.case_steps.proofs.steps.detected_steps.Goals as goal

pub loop-step-preserved : goal.loop-step-preserved
unfolding plan_case_step
loop-step-preserved c =
    let l = c.loop-step in
    rw (c.clearing_current-clearing_current_ka.ensures, c.fault_step-v.ensures) (one_more c.args.plan l.step c.args.end (with l.v l.clearing_current_ka) c.loop-step-test.true)
    ∙ l.invariant
