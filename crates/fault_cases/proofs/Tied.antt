-- No function asks anything of its caller.
-- Assumes nothing.
use contract.Lifetimes.{Lfts}
use borrow.Fn.World.{ArgsD}
use Rattle.fault_cases.specs.contracts.cases.case_count as case-count-contract
use Rattle.fault_cases.proofs.cases.case_count.Reads as case-count-reads
use Rattle.fault_cases.specs.contracts.cases.case_place as case-place-contract
use Rattle.fault_cases.proofs.cases.case_place.Reads as case-place-reads
use Rattle.fault_cases.specs.contracts.cases.fault_at as fault-at-contract
use Rattle.fault_cases.proofs.cases.fault_at.Reads as fault-at-reads
use Rattle.fault_cases.specs.contracts.cases.fault_type as fault-type-contract
use Rattle.fault_cases.proofs.cases.fault_type.Reads as fault-type-reads
use Rattle.fault_cases.specs.contracts.cases.tenth_count as tenth-count-contract
use Rattle.fault_cases.proofs.cases.tenth_count.Reads as tenth-count-reads
use Rattle.fault_cases.specs.contracts.cases.type_number as type-number-contract
use Rattle.fault_cases.proofs.cases.type_number.Reads as type-number-reads
use Rattle.fault_cases.specs.contracts.cases.type_of as type-of-contract
use Rattle.fault_cases.proofs.cases.type_of.Reads as type-of-reads

module _ (κs : Lfts 0) where
  pub case_count_any : (a : ArgsD case-count-contract.signature κs) → case-count-reads.Asked κs a
  case_count_any a = tt

  pub case_place_any : (a : ArgsD case-place-contract.signature κs) → case-place-reads.Asked κs a
  case_place_any a = tt

  pub fault_at_any : (a : ArgsD fault-at-contract.signature κs) → fault-at-reads.Asked κs a
  fault_at_any a = tt

  pub fault_type_any : (a : ArgsD fault-type-contract.signature κs) → fault-type-reads.Asked κs a
  fault_type_any a = tt

  pub tenth_count_any : (a : ArgsD tenth-count-contract.signature κs) → tenth-count-reads.Asked κs a
  tenth_count_any a = tt

  pub type_number_any : (a : ArgsD type-number-contract.signature κs) → type-number-reads.Asked κs a
  type_number_any a = tt

  pub type_of_any : (a : ArgsD type-of-contract.signature κs) → type-of-reads.Asked κs a
  type_of_any a = tt
