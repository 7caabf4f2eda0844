-- What a reader expects of the current before the factor of its type. The proofs are in proofs/Claims.antt.
use Rattle.std.specs.Prelude.{◌≡◌, Float}
use Rattle.float64.specs.Arithmetic.{◌⊗◌}
use Rattle.fault_circuit.specs.declared.circuit.FaultCircuit.{FaultCircuit}
use Rattle.fault_current.specs.Current.{current_of}
use Rattle.fault_currents.specs.Sites.{site_current}

pub record SiteClaims : Type 0 where
  -- the fault's current is that current times the factor of its type
  pub typed : (c : FaultCircuit) (t : Float) → current_of c t ≡ site_current c t ⊗ c.type_factor
