-- `figures` of a fault run meets its contract. Assumes nothing.
use Rattle.runs.specs.declared.result.DcTransientResult.{DcTransientResult}
use Rattle.fault_runs.specs.FaultRuns.{fault_figures, fault_results, figures_so_far}
use Rattle.fault_plan.specs.declared.variables.FaultVariables.{FaultVariables}
use Rattle.grid.specs.declared.simulator.DcSwitchingSimulator.{DcSwitchingSimulator}
use Rattle.timing.specs.Steps.{duration_ms, steps_of, counted_to}
use lib.Dec.{eqb}
use Rattle.lists.proofs.Counting.{by-test}
use mathlib.Core.Bool.{Bool, true, false, not, ◌&&◌, cond}
use mathlib.Core.Path.{◌≡◌, refl}
use Rattle.fault_runs.proofs.fault_run.FaultRun.figures.Goals as goal

-- with one clearing time for both
figured : (g : DcSwitchingSimulator) (v : FaultVariables) (b : Bool)
    → ◌≡◌ {A = DcTransientResult}
    (record {
      peak_fault_current_ka = v.peak_fault_ka;
      fault_clearing_time_ms = cond (b && not v.fault_cleared) (duration_ms g) v.clearing_time_ms;
      energy_dissipated_mj = v.energy_mj;
      voltage_recovery_time_ms = v.voltage_recovery_time_ms;
      max_di_dt = v.max_di_dt;
      fault_cleared = v.fault_cleared;
    })
    (cond b (fault_results g v) (figures_so_far v))
figured g v true = by-test v.fault_cleared (λ h. rw h) (λ h. rw h)
figured g v false = refl

pub returns : goal.returns
unfolding fault_figures
returns c =
    rw (c.clearing_time.ensures, c.duration_ms.ensures, c.total_steps.ensures) (figured c.args.self.grid c.args.self.variables (eqb c.args.self.steps_made (counted_to (steps_of c.args.self.grid))))
