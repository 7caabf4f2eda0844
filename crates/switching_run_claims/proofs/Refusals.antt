-- An advance of a switching run is refused by 11 exactly where 01 says so, and then changes nothing. Assumes nothing.
use mathlib.Core.Path.{◌≡◌}
use mathlib.Core.Logic.{◌↔◌}
use mathlib.Core.Bool.{true}
use Rattle.timing.specs.Steps.{steps_of}
use Rattle.rules.specs.Studies.{switching_refusal}
use Rattle.portions.proofs.Refusals.{refused_if}
use Rattle.runs.proofs.Refusals.{either}
use Rattle.switching_runs.specs.declared.switching_run.SwitchingRun.{SwitchingRun}
use Rattle.switching_runs.specs.SwitchingRuns.{switching_run_refused, switching_stepper}
use Rattle.switching_run_claims.specs.Claims.{SwitchingBroken, SwitchingRefusalClaims}

test : (r : SwitchingRun) → (switching_run_refused r ≡ true) ↔ SwitchingBroken r
unfolding switching_run_refused
test r = either (switching_refusal r.grid) (steps_of r.grid) r.steps_made

pub switching_refusal_claims : SwitchingRefusalClaims
switching_refusal_claims = record { test = test; refused_if = λ r c made. refused_if switching_stepper r c made (test r) }
