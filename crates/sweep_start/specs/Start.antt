-- The start of a sweep, document 01.7: its refusal, and what is kept. Definitions only.
use Rattle.std.specs.Prelude.{not, cond, eqb, ℕ}
use Rattle.float64.specs.Constants.{nought}
use Rattle.grid.specs.declared.parts.SweepOrder.{SweepOrder}
use Rattle.grid.specs.declared.simulator.DcSwitchingSimulator.{DcSwitchingSimulator}
use Rattle.rules.specs.Studies.{start_refusal}
use Rattle.power_flow.specs.Flow.{solution_of, blank_solution}
use Rattle.runs.specs.Blank.{blank_grid}
use Rattle.case_steps.specs.OpenCases.{no_case}
use Rattle.fault_sweep.specs.declared.sweep.Sweep.{Sweep}
use Rattle.fault_sweep.specs.KeptSweep.{kept_at, sweep_after}

-- 3, 1, 2, 4, 5, 6, 7, 8, 9, and 10 where "the flow has not converged"
abbrev pub sweep_refused : DcSwitchingSimulator → SweepOrder → ℕ
sweep_refused g o = start_refusal g o (not (solution_of g).converged)

-- beside a refusal: all zero and false
abbrev pub blank_sweep : Sweep
blank_sweep = kept_at blank_grid (record { fault_resistance = nought; inception_time_ms = nought; low_tenth = 0; high_tenth = 0 }) blank_solution 0 0 no_case

-- "A fresh sweep is what a start that isn't refused returns: the kept sweep after 0 steps"
unfoldable pub started_sweep : DcSwitchingSimulator → SweepOrder → Sweep
started_sweep g o = cond (eqb (sweep_refused g o) 0) (sweep_after g o (solution_of g) 0) blank_sweep
