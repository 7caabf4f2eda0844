-- What document 01 says of the fault's current in words, and what a reader expects beside the definitions. The proofs are in proofs/Claims.antt.
use Rattle.std.specs.Prelude.{◌≡◌, List, [], ◌∷◌, Float}
use Rattle.float64.specs.Constants.{nought}
use Rattle.elementary.specs.Exponential.{E}
use Rattle.grid.specs.declared.parts.DcFaultEvent.{DcFaultEvent}
use Rattle.grid.specs.declared.simulator.DcSwitchingSimulator.{DcSwitchingSimulator}
use Rattle.fault_circuit.specs.declared.circuit.FaultCircuit.{FaultCircuit}
use Rattle.fault_circuit.specs.Parameters.{parameters_of}
use Rattle.fault_circuit.specs.Circuit.{circuit_of}
use Rattle.fault_current.specs.Current.{current_by, current_of, decayed_by, decayed_of, exponents, rlc_current}

-- e and E are one on a list
abbrev pub OneOn : (e : Float → Float) → List Float → Type 0
OneOn e [] = Unit
OneOn e (x ∷ xs) = (e x ≡ E x) × OneOn e xs

pub record CurrentClaims : Type 0 where
  -- what is worked out once for a run changes no current
  pub worked_out_once : (g : DcSwitchingSimulator) (f : DcFaultEvent) (t : Float) → current_of (circuit_of g f) t ≡ rlc_current (parameters_of g f) f.fault_type f.inception_time_ms t
  -- `exponents` lists every argument of E: any function that is E on these gives the same currents
  pub only_these
      : (e : Float → Float) (c : FaultCircuit) (current clearing t : Float) → OneOn e (exponents c clearing t)
      → (current_by e c t ≡ current_of c t) × (decayed_by e c current clearing t ≡ decayed_of c current clearing t)
