-- What a caller learns from the contracts in src/, as Rattle reads their clauses, is the definition of the result, and nothing is asked of the caller. Assumes nothing.
use Prim.Native.Nat.{◌<◌}
use mathlib.Core.Path.{◌≡◌, ap}
use mathlib.Core.Bool.{false}
use lib.Ieee.{Float}
use contract.Lifetimes.{Lfts}
use borrow.Fn.World.{ArgsD, ResD}
use borrow.Fn.Kinds.{ended_of}
use denote.Triple.Clauses.{AtExit}
use Rattle.timing.specs.Steps.{most_steps}
use Rattle.portions.specs.Calls.{Called, Made}
use Rattle.runs.specs.Kinds.{Ready, Stepped}
use Rattle.switching_runs.specs.declared.switching_run.SwitchingRun.{SwitchingRun}
use Rattle.switching_runs.specs.SwitchingRuns.{switching_kind, switching_run_plan, stepped_switching_run, SwitchingPlanned, switching_stepper, advanced_switching_run, switching_results}
use Rattle.switching_runs.specs.contracts.switching_run.SwitchingRun.advance as advance-contract
use Rattle.switching_runs.proofs.switching_run.SwitchingRun.advance.Kinds as advance-kinds
use Rattle.switching_runs.proofs.switching_run.SwitchingRun.advance.Reads as advance-reads
use Rattle.switching_runs.specs.contracts.switching_run.SwitchingRun.figures as figures-contract
use Rattle.switching_runs.proofs.switching_run.SwitchingRun.figures.Kinds as figures-kinds
use Rattle.switching_runs.proofs.switching_run.SwitchingRun.figures.Reads as figures-reads
use Rattle.switching_runs.specs.contracts.switching_run.SwitchingRunRun.is_refused as is_refused-contract
use Rattle.switching_runs.proofs.switching_run.SwitchingRunRun.is_refused.Kinds as is_refused-kinds
use Rattle.switching_runs.proofs.switching_run.SwitchingRunRun.is_refused.Reads as is_refused-reads
use Rattle.switching_runs.specs.contracts.switching_run.SwitchingRunRun.grid as grid-contract
use Rattle.switching_runs.proofs.switching_run.SwitchingRunRun.grid.Kinds as grid-kinds
use Rattle.switching_runs.proofs.switching_run.SwitchingRunRun.grid.Reads as grid-reads
use Rattle.switching_runs.specs.contracts.switching_run.SwitchingRunRun.steps_made as steps_made-contract
use Rattle.switching_runs.proofs.switching_run.SwitchingRunRun.steps_made.Kinds as steps_made-kinds
use Rattle.switching_runs.proofs.switching_run.SwitchingRunRun.steps_made.Reads as steps_made-reads
use Rattle.switching_runs.specs.contracts.switching_run.SwitchingRunRun.state as state-contract
use Rattle.switching_runs.proofs.switching_run.SwitchingRunRun.state.Kinds as state-kinds
use Rattle.switching_runs.proofs.switching_run.SwitchingRunRun.state.Reads as state-reads
use Rattle.switching_runs.specs.contracts.switching_run.SwitchingRunRun.plan as plan-contract
use Rattle.switching_runs.proofs.switching_run.SwitchingRunRun.plan.Kinds as plan-kinds
use Rattle.switching_runs.proofs.switching_run.SwitchingRunRun.plan.Reads as plan-reads
use Rattle.switching_runs.specs.contracts.switching_run.SwitchingRunRun.step as step-contract
use Rattle.switching_runs.proofs.switching_run.SwitchingRunRun.step.Kinds as step-kinds
use Rattle.switching_runs.proofs.switching_run.SwitchingRunRun.step.Reads as step-reads

module _ (κs : Lfts 1) (a : ArgsD advance-contract.signature κs) (r : ResD advance-contract.signature κs) (e : AtExit (ended_of 1 advance-kinds.ps advance-kinds.r) κs) where
  pub advance_any : advance-reads.Asked κs a
  advance_any = tt

  -- the call, as the claims speak of it
  abbrev pub call : Called Float SwitchingRun
  call = record { allowance = a.1.0; lent = a.1.1.0.now; steps = r.steps; count = r.records; stop = r.stop; kept = r.run; left = e.1.1.0.now }

  pub advance_made : advance-reads.Learnt κs a r e → Made switching_stepper a.0 call
  unfolding advanced_switching_run
  advance_made h =
      record {
        steps_is = ap (λ x. x.steps) h.0;
        count_is = ap (λ x. x.records) h.0;
        stop_is = ap (λ x. x.stop) h.0;
        kept_is = ap (λ x. x.run) h.0;
        left_is = h.1;
      }

module _ (κs : Lfts 0) (a : ArgsD figures-contract.signature κs) (r : ResD figures-contract.signature κs) (e : AtExit (ended_of 0 figures-kinds.ps figures-kinds.r) κs) where
  pub figures_any : figures-reads.Asked κs a
  figures_any = tt

  pub figures_are : figures-reads.Learnt κs a r e → r ≡ switching_results
  figures_are h = h

-- a run as one of a kind, method by method
module _ (κs : Lfts 1) (a : ArgsD is_refused-contract.signature κs) (r : ResD is_refused-contract.signature κs) (e : AtExit (ended_of 1 is_refused-kinds.ps is_refused-kinds.r) κs) where
  pub is_refused_any : is_refused-reads.Asked κs a
  is_refused_any = tt

  pub is_refused_is : is_refused-reads.Learnt κs a r e → r ≡ switching_kind.refused a.0.now
  is_refused_is h = h

module _ (κs : Lfts 1) (a : ArgsD grid-contract.signature κs) (r : ResD grid-contract.signature κs) (e : AtExit (ended_of 1 grid-kinds.ps grid-kinds.r) κs) where
  pub grid_any : grid-reads.Asked κs a
  grid_any = tt

  pub grid_is : grid-reads.Learnt κs a r e → r ≡ switching_kind.grid a.0.now
  grid_is h = h

module _ (κs : Lfts 1) (a : ArgsD steps_made-contract.signature κs) (r : ResD steps_made-contract.signature κs) (e : AtExit (ended_of 1 steps_made-kinds.ps steps_made-kinds.r) κs) where
  pub steps_made_any : steps_made-reads.Asked κs a
  steps_made_any = tt

  pub steps_made_is : steps_made-reads.Learnt κs a r e → r ≡ switching_kind.steps_made a.0.now
  steps_made_is h = h

module _ (κs : Lfts 1) (a : ArgsD state-contract.signature κs) (r : ResD state-contract.signature κs) (e : AtExit (ended_of 1 state-kinds.ps state-kinds.r) κs) where
  pub state_any : state-reads.Asked κs a
  state_any = tt

  pub state_is : state-reads.Learnt κs a r e → r ≡ switching_kind.state a.0.now
  state_is h = h

module _ (κs : Lfts 1) (a : ArgsD plan-contract.signature κs) (r : ResD plan-contract.signature κs) (e : AtExit (ended_of 1 plan-kinds.ps plan-kinds.r) κs) where
  pub plan_any : plan-reads.Asked κs a
  plan_any = tt

  pub plan_is : plan-reads.Learnt κs a r e
      → (r ≡ switching_run_plan a.0.now) × (switching_kind.refused a.0.now ≡ false → SwitchingPlanned a.0.now r × Ready a.0.now.grid a.0.now.steps_made)
  plan_is h = (h.0, λ taken. (h.1.0 taken, h.1.1 taken))

module _ (κs : Lfts 2) (a : ArgsD step-contract.signature κs) (r : ResD step-contract.signature κs) (e : AtExit (ended_of 2 step-kinds.ps step-kinds.r) κs) where
  pub step_any : step-reads.Asked κs a
  step_any = tt

  pub step_is : step-reads.Learnt κs a r e
      → (e.0.now ≡ stepped_switching_run a.0.now a.1.0.now) × (e.1.0.now ≡ a.1.0.now)
      × (SwitchingPlanned a.0.now a.1.0.now → a.0.now.steps_made < most_steps → Stepped switching_kind SwitchingPlanned a.0.now e.0.now e.1.0.now)
  step_is h = (h.0, h.1.0, h.1.1)
