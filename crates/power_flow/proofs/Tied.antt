-- What a caller learns from the contract in src/, as Rattle reads its clauses, is the definition of the result, and nothing is asked of the caller. Assumes nothing.
use mathlib.Core.Path.{◌≡◌}
use Rattle.std.specs.Prelude.{IfOk}
use contract.Lifetimes.{Lfts}
use borrow.Fn.World.{ArgsD, ResD}
use borrow.Fn.Kinds.{ended_of}
use denote.Triple.Clauses.{AtExit}
use Rattle.rules.specs.Studies.{number_of, flow_refusal}
use Rattle.power_flow.specs.Flow.{flow_answer}
use Rattle.power_flow.specs.contracts.flow.solve_dc_power_flow as solve-contract
use Rattle.power_flow.proofs.flow.solve_dc_power_flow.Kinds as solve-kinds
use Rattle.power_flow.proofs.flow.solve_dc_power_flow.Reads as solve-reads
use Rattle.power_flow.specs.contracts.flow.no_solution as no-solution-contract
use Rattle.power_flow.proofs.flow.no_solution.Reads as no-solution-reads

module _ (κs : Lfts 0) (a : ArgsD solve-contract.signature κs) (r : ResD solve-contract.signature κs) (e : AtExit (ended_of 0 solve-kinds.ps solve-kinds.r) κs) where
  pub solve_any : solve-reads.Asked κs a
  solve_any = tt

  pub solve_number : solve-reads.Learnt κs a r e → number_of r ≡ flow_refusal a.0
  solve_number h = h.0

  pub solve_answer : solve-reads.Learnt κs a r e → IfOk r (λ solution. solution ≡ flow_answer a.0)
  solve_answer h = h.1

module _ (κs : Lfts 0) where
  pub no_solution_any : (a : ArgsD no-solution-contract.signature κs) → no-solution-reads.Asked κs a
  no_solution_any a = tt
