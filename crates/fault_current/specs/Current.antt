-- The fault's current at a time. Definitions only.
use Rattle.std.specs.Prelude.{cond, List, [], ◌∷◌, Float}
use Rattle.std.specs.Float.Ieee.{lt, neg}
use Rattle.float64.specs.Constants.{nought, milli, kilo, pico}
use Rattle.float64.specs.Arithmetic.{◌⊖◌, ◌⊗◌, ◌⊘◌}
use Rattle.float64.specs.Choice.{max_of, abs_of}
use Rattle.elementary.specs.Exponential.{E}
use Rattle.elementary.specs.Wave.{S}
use Rattle.grid.specs.declared.parts.DcFaultType.{DcFaultType}
use Rattle.fault_circuit.specs.declared.parameters.RlcParameters.{RlcParameters}
use Rattle.fault_circuit.specs.declared.circuit.Response.{Response}
use Rattle.fault_circuit.specs.declared.circuit.Response.TheVariants.{Underdamped, Overdamped, Critical, Still}
use Rattle.fault_circuit.specs.declared.circuit.FaultCircuit.{FaultCircuit}
use Rattle.fault_circuit.specs.Constants.{least_current}
use Rattle.fault_circuit.specs.Circuit.{volts, inductance, alpha, omega0_sq, underdamped, omega_d, s1, s2, resistance_factor, type_factor}

-- seconds from a moment to t, both in milliseconds; 0 before the moment
abbrev pub seconds_since : (moment t : Float) → Float
seconds_since moment t = max_of (t ⊖ moment) nought ⊗ milli

-- ---- what is handed to E

-- with damping alone, and along a root
abbrev pub damping : (a t : Float) → Float
damping a t = neg a ⊗ t

abbrev pub along : (s t : Float) → Float
along s t = s ⊗ t

-- after clearing
abbrev pub fading : FaultCircuit → (clearing t : Float) → Float
fading c clearing t = neg (seconds_since clearing t) ⊘ c.decay_tau_s

-- ---- the current, with e for E

-- in amperes, t seconds after inception
unfoldable pub amperes_by : (e : Float → Float) → Response → Float → Float
amperes_by e (Underdamped gain a w) t = gain ⊗ e (damping a t) ⊗ S (w ⊗ t)
amperes_by e (Overdamped gain s s') t = gain ⊗ (e (along s t) ⊖ e (along s' t))
amperes_by e (Critical gain a) t = gain ⊗ t ⊗ e (damping a t)
amperes_by e Still t = nought

-- in kA, while the fault lasts
unfoldable pub current_by : (e : Float → Float) → FaultCircuit → (t : Float) → Float
current_by e c t = abs_of (amperes_by e c.response (seconds_since c.inception_time_ms t)) ⊘ kilo ⊗ c.resistance_factor ⊗ c.type_factor

-- and what is left of a current after clearing
abbrev pub faded_by : (e : Float → Float) → FaultCircuit → (current clearing t : Float) → Float
faded_by e c current clearing t = current ⊗ e (fading c clearing t)

unfoldable pub decayed_by : (e : Float → Float) → FaultCircuit → (current clearing t : Float) → Float
decayed_by e c current clearing t = cond (lt (faded_by e c current clearing t) least_current) nought (faded_by e c current clearing t)

-- `exp` is E
abbrev pub amperes : Response → Float → Float
amperes r t = amperes_by E r t

abbrev pub current_of : FaultCircuit → (t : Float) → Float
current_of c t = current_by E c t

abbrev pub decayed_of : FaultCircuit → (current clearing t : Float) → Float
decayed_of c current clearing t = decayed_by E c current clearing t

-- ---- all that they hand to e: `only_these` of Claims says so

unfoldable pub during_fault : Response → Float → List Float
during_fault (Underdamped gain a w) t = damping a t ∷ []
during_fault (Overdamped gain s s') t = along s t ∷ along s' t ∷ []
during_fault (Critical gain a) t = damping a t ∷ []
during_fault Still t = []

abbrev pub exponents : FaultCircuit → (clearing t : Float) → List Float
exponents c clearing t = fading c clearing t ∷ during_fault c.response (seconds_since c.inception_time_ms t)

-- ---- 000's own formula, in which nothing is worked out beforehand

abbrev pub rlc_amperes : RlcParameters → (t : Float) → Float
rlc_amperes p t =
    let a = alpha p in
    let w = omega0_sq p in
    cond (underdamped p)
    (cond (lt pico (omega_d a w))
    (volts p ⊘ (omega_d a w ⊗ inductance p) ⊗ E (neg a ⊗ t) ⊗ S (omega_d a w ⊗ t))
    nought)
    (cond (lt pico (abs_of (s1 a w ⊖ s2 a w)))
    (volts p ⊘ (inductance p ⊗ (s1 a w ⊖ s2 a w)) ⊗ (E (s1 a w ⊗ t) ⊖ E (s2 a w ⊗ t)))
    (volts p ⊘ inductance p ⊗ t ⊗ E (neg a ⊗ t)))

abbrev pub rlc_current : RlcParameters → DcFaultType → (inception t : Float) → Float
rlc_current p type inception t = abs_of (rlc_amperes p (max_of (t ⊖ inception) nought ⊗ milli)) ⊘ kilo ⊗ resistance_factor p ⊗ type_factor type
