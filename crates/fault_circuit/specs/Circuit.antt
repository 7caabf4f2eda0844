-- The RLC circuit of 000's `simulate_fault`, a line to a definition. Definitions only.
use Rattle.std.specs.Prelude.{Bool, cond, Float}
use Rattle.std.specs.Float.Ieee.{lt, neg}
use Rattle.float64.specs.Constants.{nought, one, two, milli, micro, kilo, nano, pico}
use Rattle.float64.specs.Arithmetic.{◌⊕◌, ◌⊖◌, ◌⊗◌, ◌⊘◌}
use Rattle.float64.specs.Choice.{max_of, abs_of}
use Rattle.square_root.specs.Root.{root_of}
use Rattle.grid.specs.declared.parts.DcFaultType.{DcFaultType}
use Rattle.grid.specs.declared.parts.DcFaultType.TheVariants.{PoleToGround, PoleToPole, ConverterInternal}
use Rattle.grid.specs.declared.parts.DcFaultEvent.{DcFaultEvent}
use Rattle.grid.specs.declared.simulator.DcSwitchingSimulator.{DcSwitchingSimulator}
use Rattle.fault_circuit.specs.declared.parameters.RlcParameters.{RlcParameters}
use Rattle.fault_circuit.specs.declared.circuit.Response.{Response}
use Rattle.fault_circuit.specs.declared.circuit.Response.TheVariants.{Underdamped, Overdamped, Critical, Still}
use Rattle.fault_circuit.specs.declared.circuit.FaultCircuit.{FaultCircuit}
use Rattle.fault_circuit.specs.Constants.{ground_part, internal_part}
use Rattle.fault_circuit.specs.Parameters.{parameters_of}

-- in base units, and what of them divides
abbrev pub henries : RlcParameters → Float
henries p = p.l_total_mh ⊗ milli

abbrev pub volts : RlcParameters → Float
volts p = p.v_dc_kv ⊗ kilo

abbrev pub inductance : RlcParameters → Float
inductance p = max_of (henries p) nano

abbrev pub capacitance : RlcParameters → Float
capacitance p = max_of (p.c_total_uf ⊗ micro) pico

-- R / 2L and 1 / LC
abbrev pub alpha : RlcParameters → Float
alpha p = p.r_total_ohm ⊘ (two ⊗ inductance p)

abbrev pub omega0_sq : RlcParameters → Float
omega0_sq p = one ⊘ (inductance p ⊗ capacitance p)

abbrev pub underdamped : RlcParameters → Bool
underdamped p = lt (alpha p ⊗ alpha p) (omega0_sq p)

-- of a = alpha and w = omega0², underdamped: √(w - a²)
abbrev pub omega_d : Float → Float → Float
omega_d a w = root_of (max_of (w ⊖ a ⊗ a) nought)

-- not underdamped: the roots -a ± √(a² - w)
abbrev pub disc : Float → Float → Float
disc a w = root_of (max_of (a ⊗ a ⊖ w) nought)

abbrev pub s1 : Float → Float → Float
s1 a w = neg a ⊕ disc a w

abbrev pub s2 : Float → Float → Float
s2 a w = neg a ⊖ disc a w

-- under v volts and l henries
unfoldable pub underdamped_response : (v l a w : Float) → Response
underdamped_response v l a w = cond (lt pico (omega_d a w)) (Underdamped (v ⊘ (omega_d a w ⊗ l)) a (omega_d a w)) Still

unfoldable pub overdamped_response : (v l a w : Float) → Response
overdamped_response v l a w =
    cond (lt pico (abs_of (s1 a w ⊖ s2 a w)))
    (Overdamped (v ⊘ (l ⊗ (s1 a w ⊖ s2 a w))) (s1 a w) (s2 a w))
    (Critical (v ⊘ l) a)

unfoldable pub response_of : RlcParameters → Response
response_of p =
    cond (underdamped p)
    (underdamped_response (volts p) (inductance p) (alpha p) (omega0_sq p))
    (overdamped_response (volts p) (inductance p) (alpha p) (omega0_sq p))

abbrev pub resistance_factor : RlcParameters → Float
resistance_factor p = one ⊘ (one ⊕ p.r_fault_ohm ⊘ (p.r_total_ohm ⊕ nano))

unfoldable pub type_factor : DcFaultType → Float
type_factor PoleToGround = ground_part
type_factor PoleToPole = one
type_factor ConverterInternal = internal_part

-- L / R, for the decay after clearing
abbrev pub decay_tau : RlcParameters → Float
decay_tau p = max_of (henries p ⊘ max_of p.r_total_ohm nano) nano

unfoldable pub circuit_at : RlcParameters → DcFaultType → Float → FaultCircuit
circuit_at p type inception =
    record {
      response = response_of p;
      resistance_factor = resistance_factor p;
      type_factor = type_factor type;
      decay_tau_s = decay_tau p;
      inception_time_ms = inception;
      r_total_ohm = p.r_total_ohm;
      r_fault_ohm = p.r_fault_ohm;
    }

abbrev pub circuit_of : DcSwitchingSimulator → DcFaultEvent → FaultCircuit
circuit_of g f = circuit_at (parameters_of g f) f.fault_type f.inception_time_ms
