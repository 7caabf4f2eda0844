-- The claims of specs/Claims. Assumes nothing.
use mathlib.Core.Path.{◌≡◌, refl, ap}
use lib.Ieee.{Float, lt}
use Rattle.lists.proofs.Counting.{by-test}
use Rattle.float64.specs.Constants.{kilo, pico}
use Rattle.float64.specs.Arithmetic.{◌⊖◌, ◌⊗◌, ◌⊘◌}
use Rattle.float64.specs.Choice.{abs_of}
use Rattle.fault_circuit.specs.declared.parameters.RlcParameters.{RlcParameters}
use Rattle.fault_circuit.specs.declared.circuit.Response.{Response}
use Rattle.fault_circuit.specs.declared.circuit.Response.TheVariants.{Underdamped, Overdamped, Critical, Still}
use Rattle.fault_circuit.specs.declared.circuit.FaultCircuit.{FaultCircuit}
use Rattle.fault_circuit.specs.Parameters.{parameters_of}
use Rattle.fault_circuit.specs.Circuit.{alpha, omega0_sq, underdamped, omega_d, s1, s2, underdamped_response, overdamped_response, response_of, resistance_factor, type_factor, circuit_at}
use Rattle.fault_current.specs.Current.{seconds_since, amperes_by, amperes, current_by, current_of, decayed_by, decayed_of, during_fault, exponents, rlc_amperes}
use Rattle.fault_current.specs.Claims.{CurrentClaims, OneOn}

-- ---- worked out once

same_amperes : (p : RlcParameters) (t : Float) → amperes (response_of p) t ≡ rlc_amperes p t
unfolding response_of underdamped_response overdamped_response amperes_by
same_amperes p t =
    by-test (underdamped p)
    (λ o. rw o (by-test (lt pico (omega_d (alpha p) (omega0_sq p))) (λ l. rw l) (λ l. rw l)))
    (λ o. rw o (by-test (lt pico (abs_of (s1 (alpha p) (omega0_sq p) ⊖ s2 (alpha p) (omega0_sq p)))) (λ l. rw l) (λ l. rw l)))

-- ---- every argument of E

same_by : (e : Float → Float) (r : Response) (t : Float) → OneOn e (during_fault r t) → amperes_by e r t ≡ amperes r t
unfolding amperes_by during_fault
same_by e (Underdamped gain a w) t h = rw h.0
same_by e (Overdamped gain s s') t h = rw (h.0, h.1.0)
same_by e (Critical gain a) t h = rw h.0
same_by e Still t h = refl

only_these
    : (e : Float → Float) (c : FaultCircuit) (current clearing t : Float) → OneOn e (exponents c clearing t)
    → (current_by e c t ≡ current_of c t) × (decayed_by e c current clearing t ≡ decayed_of c current clearing t)
unfolding current_by decayed_by
only_these e c current clearing t h = (rw (same_by e c.response (seconds_since c.inception_time_ms t) h.1), rw h.0)

pub current_claims : CurrentClaims
unfolding current_by circuit_at
current_claims =
    record {
      worked_out_once = λ g f t.
          ap (λ (i : Float). abs_of i ⊘ kilo ⊗ resistance_factor (parameters_of g f) ⊗ type_factor f.fault_type) (same_amperes (parameters_of g f) (seconds_since f.inception_time_ms t));
      only_these = only_these;
    }
