-- An advance of a fault run is refused by 11 exactly where 01 says so, and then changes nothing. Assumes nothing.
use mathlib.Core.Path.{◌≡◌}
use mathlib.Core.Logic.{◌↔◌}
use mathlib.Core.Bool.{true}
use Rattle.timing.specs.Steps.{steps_of}
use Rattle.rules.specs.Studies.{fault_refusal}
use Rattle.portions.proofs.Refusals.{refused_if}
use Rattle.runs.proofs.Refusals.{either}
use Rattle.fault_runs.specs.declared.fault_run.FaultRun.{FaultRun}
use Rattle.fault_runs.specs.FaultRuns.{fault_run_refused, fault_stepper}
use Rattle.fault_run_claims.specs.Claims.{FaultBroken, FaultRefusalClaims}

test : (r : FaultRun) → (fault_run_refused r ≡ true) ↔ FaultBroken r
unfolding fault_run_refused
test r = either (fault_refusal r.grid r.fault) (steps_of r.grid) r.steps_made

pub fault_refusal_claims : FaultRefusalClaims
fault_refusal_claims = record { test = test; refused_if = λ r c made. refused_if fault_stepper r c made (test r) }
