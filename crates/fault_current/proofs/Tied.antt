-- The claims speak of what the code returns: what a caller learns from a contract in src/, as Rattle reads its clauses, gives the claim of the result, and nothing is asked of the caller.
-- Assumes nothing.
use mathlib.Core.Path.{◌≡◌, sym, ap, ◌∙◌}
use lib.Ieee.{Float}
use contract.Lifetimes.{Lfts}
use borrow.Fn.World.{ArgsD, ResD}
use borrow.Fn.Kinds.{ended_of}
use denote.Triple.Clauses.{AtExit}
use Rattle.fault_circuit.specs.declared.parameters.RlcParameters.{RlcParameters}
use Rattle.fault_circuit.specs.declared.circuit.FaultCircuit.{FaultCircuit}
use Rattle.fault_circuit.specs.Parameters.{parameters_of}
use Rattle.fault_current.specs.Current.{current_by, current_of, decayed_by, exponents, rlc_current}
use Rattle.fault_current.specs.Claims.{OneOn}
use Rattle.fault_current.proofs.Claims.{current_claims}
use Rattle.fault_circuit.specs.contracts.fault_rlc_params as parameters-contract
use Rattle.fault_circuit.proofs.fault_rlc_params.Kinds as parameters-kinds
use Rattle.fault_circuit.proofs.fault_rlc_params.Reads as parameters-reads
use Rattle.fault_circuit.specs.contracts.fault_circuit as circuit-contract
use Rattle.fault_circuit.proofs.fault_circuit.Kinds as circuit-kinds
use Rattle.fault_circuit.proofs.fault_circuit.Reads as circuit-reads
use Rattle.fault_current.specs.contracts.current.fault_current_ka as current-contract
use Rattle.fault_current.proofs.current.fault_current_ka.Kinds as current-kinds
use Rattle.fault_current.proofs.current.fault_current_ka.Reads as current-reads
use Rattle.fault_current.specs.contracts.current.decayed_current_ka as decayed-contract
use Rattle.fault_current.proofs.current.decayed_current_ka.Kinds as decayed-kinds
use Rattle.fault_current.proofs.current.decayed_current_ka.Reads as decayed-reads

-- a grid and a fault, and the circuit that `fault_circuit` made of them
module _ (κs : Lfts 0) (a : ArgsD circuit-contract.signature κs) (r : ResD circuit-contract.signature κs) (e : AtExit (ended_of 0 circuit-kinds.ps circuit-kinds.r) κs) where
  -- the current that `fault_current_ka` finds with that circuit is 000's with the parameters that `fault_rlc_params` returns
  module _ (p : ArgsD parameters-contract.signature κs) (q : ResD parameters-contract.signature κs) (d : AtExit (ended_of 0 parameters-kinds.ps parameters-kinds.r) κs)
      (b : ArgsD current-contract.signature κs) (s : ResD current-contract.signature κs) (f : AtExit (ended_of 0 current-kinds.ps current-kinds.r) κs) where
    pub current_worked_out_once
        : circuit-reads.Learnt κs a r e → parameters-reads.Learnt κs p q d → current-reads.Learnt κs b s f → p ≡ a → b.0 ≡ r
        → s ≡ rlc_current q a.1.0.fault_type a.1.0.inception_time_ms b.1.0
    current_worked_out_once h l k same made =
        k ∙ ap (λ (c : FaultCircuit). current_of c b.1.0) (made ∙ h) ∙ current_claims.worked_out_once a.0 a.1.0 b.1.0
        ∙ ap (λ (z : RlcParameters). rlc_current z a.1.0.fault_type a.1.0.inception_time_ms b.1.0) (sym (l ∙ ap (λ (x : ArgsD circuit-contract.signature κs). parameters_of x.0 x.1.0) same))

module _ (κs : Lfts 0) (a : ArgsD current-contract.signature κs) (r : ResD current-contract.signature κs) (e : AtExit (ended_of 0 current-kinds.ps current-kinds.r) κs) where
  pub current_any : current-reads.Asked κs a
  current_any = tt

  pub current_only_these : current-reads.Learnt κs a r e → (exp : Float → Float) (clearing : Float) → OneOn exp (exponents a.0 clearing a.1.0) → r ≡ current_by exp a.0 a.1.0
  current_only_these h exp clearing o = h ∙ sym (current_claims.only_these exp a.0 clearing clearing a.1.0 o).0

module _ (κs : Lfts 0) (a : ArgsD decayed-contract.signature κs) (r : ResD decayed-contract.signature κs) (e : AtExit (ended_of 0 decayed-kinds.ps decayed-kinds.r) κs) where
  pub decayed_any : decayed-reads.Asked κs a
  decayed_any = tt

  pub decayed_only_these : decayed-reads.Learnt κs a r e → (exp : Float → Float) → OneOn exp (exponents a.0 a.1.1.0 a.1.1.1.0) → r ≡ decayed_by exp a.0 a.1.0 a.1.1.0 a.1.1.1.0
  decayed_only_these h exp o = h ∙ sym (current_claims.only_these exp a.0 a.1.0 a.1.1.0 a.1.1.1.0 o).1
