-- The claims speak of what the code returns: what a caller learns from a contract in src/, as Rattle reads its clauses, gives the claim of the result, and nothing is asked of the caller.
-- Assumes nothing.
use mathlib.Core.Path.{◌≡◌, sym, ◌∙◌, subst}
use mathlib.Core.Bool.{true}
use lib.Ieee.{Float, le}
use Rattle.float64.specs.Constants.{decimal}
use contract.Lifetimes.{Lfts}
use borrow.Fn.World.{ArgsD, ResD}
use borrow.Fn.Kinds.{ended_of}
use denote.Triple.Clauses.{AtExit}
use Rattle.timing.specs.Steps.{steps_of}
use Rattle.timing.specs.Claims.{Steps}
use Rattle.timing.proofs.Claims.{step_claims}
use Rattle.timing.proofs.Raised.{raised_claims}
use Rattle.timing.specs.contracts.steps.total_steps as total-steps-contract
use Rattle.timing.proofs.steps.total_steps.Kinds as total-steps-kinds
use Rattle.timing.proofs.steps.total_steps.Reads as total-steps-reads
use Rattle.timing.specs.contracts.steps.record_interval as record-interval-contract
use Rattle.timing.proofs.steps.record_interval.Reads as record-interval-reads
use Rattle.timing.specs.contracts.steps.is_recorded as is-recorded-contract
use Rattle.timing.proofs.steps.is_recorded.Reads as is-recorded-reads
use Rattle.timing.specs.contracts.steps.recorded_steps as recorded-steps-contract
use Rattle.timing.proofs.steps.recorded_steps.Reads as recorded-steps-reads
use Rattle.timing.specs.contracts.steps.record_length as record-length-contract
use Rattle.timing.proofs.steps.record_length.Reads as record-length-reads
use Rattle.timing.specs.contracts.steps.time_step_ms as time-step-ms-contract
use Rattle.timing.proofs.steps.time_step_ms.Kinds as time-step-ms-kinds
use Rattle.timing.proofs.steps.time_step_ms.Reads as time-step-ms-reads
use Rattle.timing.specs.contracts.steps.duration_ms as duration-ms-contract
use Rattle.timing.proofs.steps.duration_ms.Kinds as duration-ms-kinds
use Rattle.timing.proofs.steps.duration_ms.Reads as duration-ms-reads

module _ (κs : Lfts 0) (a : ArgsD total-steps-contract.signature κs) (r : ResD total-steps-contract.signature κs) (e : AtExit (ended_of 0 total-steps-kinds.ps total-steps-kinds.r) κs) where
  pub total_steps_any : total-steps-reads.Asked κs a
  total_steps_any = tt

  -- up to the limit, N itself
  pub total_steps_are : total-steps-reads.Learnt κs a r e → Steps (steps_of a.0) → r ≡ steps_of a.0
  total_steps_are h k = h ∙ step_claims.counted (steps_of a.0) k

module _ (κs : Lfts 0) (a : ArgsD time-step-ms-contract.signature κs) (r : ResD time-step-ms-contract.signature κs) (e : AtExit (ended_of 0 time-step-ms-kinds.ps time-step-ms-kinds.r) κs) where
  pub time_step_ms_any : time-step-ms-reads.Asked κs a
  time_step_ms_any = tt

  pub time_step_ms_raised : time-step-ms-reads.Learnt κs a r e → le (decimal 1 10000) r ≡ true
  time_step_ms_raised h = subst (λ (t : Float). le (decimal 1 10000) t ≡ true) (sym h) (raised_claims.time_step_lem a.0)

module _ (κs : Lfts 0) (a : ArgsD duration-ms-contract.signature κs) (r : ResD duration-ms-contract.signature κs) (e : AtExit (ended_of 0 duration-ms-kinds.ps duration-ms-kinds.r) κs) where
  pub duration_ms_any : duration-ms-reads.Asked κs a
  duration_ms_any = tt

  pub duration_ms_raised : duration-ms-reads.Learnt κs a r e → le (decimal 1 1000) r ≡ true
  duration_ms_raised h = subst (λ (t : Float). le (decimal 1 1000) t ≡ true) (sym h) (raised_claims.duration a.0)

module _ (κs : Lfts 0) where
  pub record_interval_any : (a : ArgsD record-interval-contract.signature κs) → record-interval-reads.Asked κs a
  record_interval_any a = tt

  pub is_recorded_any : (a : ArgsD is-recorded-contract.signature κs) → is-recorded-reads.Asked κs a
  is_recorded_any a = tt

  pub recorded-steps_any : (a : ArgsD recorded-steps-contract.signature κs) → recorded-steps-reads.Asked κs a
  recorded-steps_any a = tt

  pub record_length_any : (a : ArgsD record-length-contract.signature κs) → record-length-reads.Asked κs a
  record_length_any a = tt
