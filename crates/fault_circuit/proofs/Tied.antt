-- What a caller learns from the contracts in src/, as Rattle reads their clauses, is the definition of the result, and nothing is asked of the caller. Assumes nothing.
use mathlib.Core.Path.{◌≡◌}
use contract.Lifetimes.{Lfts}
use borrow.Fn.World.{ArgsD, ResD}
use borrow.Fn.Kinds.{ended_of}
use denote.Triple.Clauses.{AtExit}
use Rattle.fault_circuit.specs.Parameters.{parameters_of}
use Rattle.fault_circuit.specs.Circuit.{circuit_of}
use Rattle.fault_circuit.specs.contracts.parameters.fault_rlc_params as parameters-contract
use Rattle.fault_circuit.proofs.parameters.fault_rlc_params.Kinds as parameters-kinds
use Rattle.fault_circuit.proofs.parameters.fault_rlc_params.Reads as parameters-reads
use Rattle.fault_circuit.specs.contracts.circuit.fault_circuit as circuit-contract
use Rattle.fault_circuit.proofs.circuit.fault_circuit.Kinds as circuit-kinds
use Rattle.fault_circuit.proofs.circuit.fault_circuit.Reads as circuit-reads

module _ (κs : Lfts 0) (a : ArgsD parameters-contract.signature κs) (r : ResD parameters-contract.signature κs) (e : AtExit (ended_of 0 parameters-kinds.ps parameters-kinds.r) κs) where
  pub parameters_any : parameters-reads.Asked κs a
  parameters_any = tt

  pub parameters_is : parameters-reads.Learnt κs a r e → r ≡ parameters_of a.0 a.1.0
  parameters_is h = h

module _ (κs : Lfts 0) (a : ArgsD circuit-contract.signature κs) (r : ResD circuit-contract.signature κs) (e : AtExit (ended_of 0 circuit-kinds.ps circuit-kinds.r) κs) where
  pub circuit_any : circuit-reads.Asked κs a
  circuit_any = tt

  pub circuit_is : circuit-reads.Learnt κs a r e → r ≡ circuit_of a.0 a.1.0
  circuit_is h = h
