-- `step` of a fault run meets its contract. Assumes nothing.
use Prim.Native.Nat.{◌+◌}
use Rattle.fault_runs.specs.FaultRuns.{next_fault_run, stepped_fault_run, stepped_fault_plan}
use Rattle.fault_runs.proofs.Steps.{quietly, still, quietly_by, flag_kept, unset}
use mathlib.Core.Path.{◌≡◌, refl, sym, ◌∙◌}
use native.Mathlib.Numerals.{add-one}
use native.Mathlib.Omega.{arith}
use Rattle.fault_runs.proofs.fault_run.FaultRunRun.step.Goals as goal

pub returns-then-plan-waits : goal.returns-then-plan-waits
unfolding next_fault_run stepped_fault_run stepped_fault_plan
returns-then-plan-waits c =
    let plan = c.args.plan.now in
    let run = c.args.self.now in
    record {
      run = rw (c.saturating_add-self.ensures, c.quiet_step-self.ensures ∙ quietly_by plan.plan run.steps_made run.variables plan.resting c.waits.result c.waits.ensures c.if-plan-waits.true);
      plan = λ i. record { plan = plan.plan; resting = flag_kept plan.plan run.steps_made run.variables plan.resting c.waits.result c.waits.ensures c.if-plan-waits.true i };
      next = λ p few.
          let one : c.saturating_add-self.result ≡ run.steps_made + 1 = omega arith in
          let is = c.quiet_step-self.ensures ∙ quietly plan.plan _ _ _ p.1 c.waits.result c.waits.ensures c.if-plan-waits.true in
          record {
            next = rw (is, p.0 run.steps_made run.variables, one, add-one);
            grid = refl;
            counted = one;
            planned = (p.0, λ r. rw is (still plan.plan _ _ _ p.1 r));
          };
    }

pub returns : goal.returns
unfolding next_fault_run stepped_fault_run stepped_fault_plan
returns c =
    let run = c.args.self.now in
    let off = unset c.args.plan.now.resting c.waits.result c.if-plan-waits.false in
    record {
      run = rw (c.saturating_add-self.ensures, c.fault_step-self.ensures, off);
      plan = rw (c.rests-plan.ensures, c.fault_step-self.ensures, off);
      next = λ p few.
          let one : c.saturating_add-self.result ≡ run.steps_made + 1 = omega arith in
          record {
            next = rw (c.fault_step-self.ensures, p.0 run.steps_made run.variables, one, add-one);
            grid = refl;
            counted = one;
            planned = (p.0, λ r. sym c.rests-plan.ensures ∙ r);
          };
    }
