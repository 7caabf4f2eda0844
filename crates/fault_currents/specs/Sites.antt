-- The fault's current without the factor of its type. Definitions only.
use Rattle.std.specs.Prelude.{Float}
use Rattle.float64.specs.Constants.{kilo}
use Rattle.float64.specs.Arithmetic.{◌⊗◌, ◌⊘◌}
use Rattle.float64.specs.Choice.{abs_of}
use Rattle.fault_circuit.specs.declared.circuit.FaultCircuit.{FaultCircuit}
use Rattle.fault_current.specs.Current.{seconds_since, amperes}

-- in kA, while the fault lasts, before the factor of the fault's type
abbrev pub site_current : FaultCircuit → (t : Float) → Float
site_current c t = abs_of (amperes c.response (seconds_since c.inception_time_ms t)) ⊘ kilo ⊗ c.resistance_factor
