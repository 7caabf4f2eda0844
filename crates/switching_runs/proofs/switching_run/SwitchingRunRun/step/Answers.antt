-- `step` of a switching run meets its contract. Assumes nothing.
use Prim.Native.Nat.{◌+◌}
use Rattle.switching_runs.specs.SwitchingRuns.{next_switching_run, stepped_switching_run}
use mathlib.Core.Path.{◌≡◌, refl}
use native.Mathlib.Numerals.{add-one}
use native.Mathlib.Omega.{arith}
use Rattle.switching_runs.proofs.switching_run.SwitchingRunRun.step.Goals as goal

pub returns : goal.returns
unfolding next_switching_run stepped_switching_run
returns c =
    record {
      run = rw (c.switching_step-self.ensures, c.saturating_add-self.ensures);
      plan = refl;
      next = λ p few.
          let one : c.saturating_add-self.result ≡ c.args.self.now.steps_made + 1 = omega arith in
          record { next = rw (c.switching_step-self.ensures, p c.args.self.now.steps_made c.args.self.now.variables, one, add-one); grid = refl; counted = one; planned = p };
    }
