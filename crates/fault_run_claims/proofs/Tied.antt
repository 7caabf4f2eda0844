-- The claims speak of what the code returns: what a caller learns from the contracts of `fault_runs` and `fault_start`, as Rattle reads their clauses, gives the claim of the result. Assumes nothing.
use mathlib.Core.Path.{◌≡◌, refl, ap, ◌∙◌}
use mathlib.Core.Bool.{true}
use borrow.Author.Tests.{ne_eqb}
use mathlib.Core.List.{List}
use lib.Ieee.{Float}
use Rattle.std.specs.Prelude.{Ok}
use Rattle.std.specs.Result.{result_unwrap_or}
use contract.Lifetimes.{Lfts}
use borrow.Fn.World.{ArgsD, ResD}
use borrow.Fn.Kinds.{ended_of}
use denote.Triple.Clauses.{AtExit}
use Rattle.rules.specs.Studies.{fault_refusal}
use Rattle.rules.proofs.Outcomes.{ok_at, unwrapped}
use Rattle.portions.specs.Calls.{Called, Chain, last, and}
use Rattle.portions.specs.Refusals.{RefusedIf}
use Rattle.portions.proofs.Course.{chain_and}
use Rattle.fault_runs.specs.declared.fault_run.FaultRun.{FaultRun}
use Rattle.fault_runs.specs.FaultRuns.{fault_run_refused, fault_stepper, blank_fault_run, fault_run_after, started_fault_run}
use Rattle.fault_run_claims.specs.Claims.{FaultBroken}
use Rattle.fault_run_claims.proofs.Claims.{fault_run_claims}
use Rattle.fault_run_claims.proofs.Refusals.{fault_refusal_claims}
use Rattle.fault_start.specs.contracts.simulate_fault as simulate-contract
use Rattle.fault_start.proofs.simulate_fault.Kinds as simulate-kinds
use Rattle.fault_start.proofs.simulate_fault.Reads as simulate-reads
use Rattle.fault_runs.specs.contracts.fault_run.FaultRun.advance as advance-contract
use Rattle.fault_runs.proofs.fault_run.FaultRun.advance.Kinds as advance-kinds
use Rattle.fault_runs.proofs.fault_run.FaultRun.advance.Reads as advance-reads
use Rattle.fault_runs.proofs.Tied.{call, advance_made}

module _ (κs : Lfts 0) (a : ArgsD simulate-contract.signature κs) (r : ResD simulate-contract.signature κs) (e : AtExit (ended_of 0 simulate-kinds.ps simulate-kinds.r) κs) where
  -- one that is accepted is kept after 0 steps
  pub simulate_accepted : simulate-reads.Learnt κs a r e → fault_refusal a.0 a.1.0 ≡ 0 → r ≡ Ok (fault_run_after a.0 a.1.0 0)
  simulate_accepted h z = ok_at r _ (h.0 ∙ z) (rw (← fault_run_claims.started a.0 a.1.0 z) h.1)

  -- with a run of zeros in the place of the one that a refused start does not have, which every advance refuses
  pub simulate_unwrapped : simulate-reads.Learnt κs a r e → result_unwrap_or r blank_fault_run ≡ started_fault_run a.0 a.1.0
  unfolding started_fault_run
  simulate_unwrapped h = unwrapped r _ blank_fault_run h.1 (λ n. rw (ne_eqb (fault_refusal a.0 a.1.0) 0 (λ z. n (h.0 ∙ z))) refl)

  pub not_simulated : simulate-reads.Learnt κs a r e → (fault_refusal a.0 a.1.0 ≡ 0 → ⊥) → fault_run_refused (result_unwrap_or r blank_fault_run) ≡ true
  not_simulated h n = ap fault_run_refused (simulate_unwrapped h) ∙ fault_run_claims.not_started a.0 a.1.0 n

module _ (κs : Lfts 1) (a : ArgsD advance-contract.signature κs) (r : ResD advance-contract.signature κs) (e : AtExit (ended_of 1 advance-kinds.ps advance-kinds.r) κs) where
  -- behind calls from s that kept the run which is advanced
  pub advance_chained : (s : FaultRun) (cs : List (Called Float FaultRun)) → Chain fault_stepper s cs → last s cs ≡ a.0 → advance-reads.Learnt κs a r e → Chain fault_stepper s (and cs (call κs a r e))
  advance_chained s cs chain k h = chain_and fault_stepper s cs (call κs a r e) chain (rw k (advance_made κs a r e h))

  pub advance-refused : advance-reads.Learnt κs a r e → RefusedIf (FaultBroken a.0) a.0 (call κs a r e)
  advance-refused h = fault_refusal_claims.refused_if a.0 (call κs a r e) (advance_made κs a r e h)
