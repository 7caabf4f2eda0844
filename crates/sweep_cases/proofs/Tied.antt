-- Nothing is asked of a caller, as Rattle reads the clauses of the contracts in src/. Assumes nothing.
use mathlib.Core.Path.{◌≡◌}
use contract.Lifetimes.{Lfts}
use borrow.Fn.World.{ArgsD, ResD}
use borrow.Fn.Kinds.{ended_of}
use denote.Triple.Clauses.{AtExit}
use Prim.Native.Nat.{◌-◌}
use Rattle.case_steps.specs.Plans.{plan_case_from}
use Rattle.sweep_cases.specs.Plans.{common_of, plan_for}
use Rattle.sweep_cases.specs.contracts.cases.common_of as common-contract
use Rattle.sweep_cases.proofs.cases.common_of.Kinds as common-kinds
use Rattle.sweep_cases.proofs.cases.common_of.Reads as common-reads
use Rattle.sweep_cases.specs.contracts.cases.make_steps as steps-contract
use Rattle.sweep_cases.proofs.cases.make_steps.Kinds as steps-kinds
use Rattle.sweep_cases.proofs.cases.make_steps.Reads as steps-reads
use Rattle.sweep_cases.specs.contracts.cases.steps_left_open as now-contract
use Rattle.sweep_cases.proofs.cases.steps_left_open.Reads as now-reads
use Rattle.sweep_cases.specs.contracts.cases.plan_at as plan-contract
use Rattle.sweep_cases.proofs.cases.plan_at.Reads as plan-reads
use Rattle.sweep_cases.specs.contracts.cases.open_case as open-contract
use Rattle.sweep_cases.proofs.cases.open_case.Kinds as open-kinds
use Rattle.sweep_cases.proofs.cases.open_case.Reads as open-reads

module _ (κs : Lfts 0) (a : ArgsD common-contract.signature κs) (r : ResD common-contract.signature κs) (e : AtExit (ended_of 0 common-kinds.ps common-kinds.r) κs) where
  pub common_any : common-reads.Asked κs a
  common_any = tt

  pub common_is : common-reads.Learnt κs a r e → r ≡ common_of a.0 a.1.0 a.1.1.0
  common_is h = h

module _ (κs : Lfts 0) (a : ArgsD steps-contract.signature κs) (r : ResD steps-contract.signature κs) (e : AtExit (ended_of 0 steps-kinds.ps steps-kinds.r) κs) where
  pub steps_any : steps-reads.Asked κs a
  steps_any = tt

  pub steps_are : steps-reads.Learnt κs a r e → r ≡ plan_case_from (plan_for a.0 a.1.0) a.1.1.0 a.1.1.1.1.0 (a.1.1.1.0 - a.1.1.0)
  steps_are h = h

module _ (κs : Lfts 0) (a : ArgsD open-contract.signature κs) (r : ResD open-contract.signature κs) (e : AtExit (ended_of 0 open-kinds.ps open-kinds.r) κs) where
  pub open_any : open-reads.Asked κs a
  open_any = tt

pub now_any : (κs : Lfts 0) (a : ArgsD now-contract.signature κs) → now-reads.Asked κs a
now_any κs a = tt

pub plan_any : (κs : Lfts 0) (a : ArgsD plan-contract.signature κs) → plan-reads.Asked κs a
plan_any κs a = tt
