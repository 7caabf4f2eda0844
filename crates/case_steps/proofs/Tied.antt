-- No function asks anything of its caller.
-- Assumes nothing.
use contract.Lifetimes.{Lfts}
use borrow.Fn.World.{ArgsD}
use Rattle.case_steps.specs.contracts.open_case.first_open_case as first-open-case-contract
use Rattle.case_steps.proofs.open_case.first_open_case.Reads as first-open-case-reads
use Rattle.case_steps.specs.contracts.open_case.no_open_case as no-open-case-contract
use Rattle.case_steps.proofs.open_case.no_open_case.Reads as no-open-case-reads
use Rattle.case_steps.specs.contracts.open_case.case_outcome as case-outcome-contract
use Rattle.case_steps.proofs.open_case.case_outcome.Reads as case-outcome-reads
use Rattle.case_steps.specs.contracts.steps.case_steps as case-steps-contract
use Rattle.case_steps.proofs.steps.case_steps.Reads as case-steps-reads

module _ (κs : Lfts 0) where
  pub first_open_case_any : (a : ArgsD first-open-case-contract.signature κs) → first-open-case-reads.Asked κs a
  first_open_case_any a = tt

  pub no_open_case_any : (a : ArgsD no-open-case-contract.signature κs) → no-open-case-reads.Asked κs a
  no_open_case_any a = tt

  pub case_outcome_any : (a : ArgsD case-outcome-contract.signature κs) → case-outcome-reads.Asked κs a
  case_outcome_any a = tt

  pub case_steps_any : (a : ArgsD case-steps-contract.signature κs) → case-steps-reads.Asked κs a
  case_steps_any a = tt
