-- The claims speak of what the code returns: of the circuit that `fault_circuit` makes of an accepted fault. Assumes nothing.
use Prim.Native.Nat.{ℕ, ◌<◌}
use mathlib.Core.Path.{◌≡◌}
use mathlib.Core.Bool.{true}
use lib.Ieee.{Float}
use contract.Lifetimes.{Lfts}
use borrow.Fn.World.{ArgsD, ResD}
use borrow.Fn.Kinds.{ended_of}
use denote.Triple.Clauses.{AtExit}
use Rattle.lists.specs.Scans.{every}
use Rattle.timing.specs.Steps.{time_of_step, steps_of}
use Rattle.rules.specs.Studies.{fault_refusal}
use Rattle.fault_current.specs.Current.{exponents}
use Rattle.fault_circuit.specs.contracts.fault_circuit as circuit-contract
use Rattle.fault_circuit.proofs.fault_circuit.Kinds as circuit-kinds
use Rattle.fault_circuit.proofs.fault_circuit.Reads as circuit-reads
use Rattle.exponents.specs.Claims.{is_time, never_positive, in_unit}
use Rattle.exponents.proofs.Claims.{exponent_claims}

-- a grid and a fault, and the circuit that `fault_circuit` made of them
module _ (κs : Lfts 0) (a : ArgsD circuit-contract.signature κs) (r : ResD circuit-contract.signature κs) (e : AtExit (ended_of 0 circuit-kinds.ps circuit-kinds.r) κs) where
  module _ (h : circuit-reads.Learnt κs a r e) (k : fault_refusal a.0 a.1.0 ≡ 0) where
    pub circuit_never_positive : (clearing t : Float) → is_time t ≡ true → every never_positive (exponents r clearing t) ≡ true
    circuit_never_positive clearing t H = rw h (exponent_claims.never_positive_lem a.0 a.1.0 k clearing t H)

    pub circuit_at_steps : (clearing : Float) (i : ℕ) → i < steps_of a.0 → every in_unit (exponents r clearing (time_of_step a.0 i)) ≡ true
    circuit_at_steps clearing i I = rw h (exponent_claims.unit_at_steps a.0 a.1.0 k clearing i I)
