-- What a case leads to at its end, read from the steps in which its fault lasts. Definitions only: Claims says that all its steps lead to the same.
use Rattle.std.specs.Prelude.{ℕ, ◌-◌, Bool, cond, Float}
use Rattle.grid.specs.declared.parts.DcFaultType.{DcFaultType}
use Rattle.grid.specs.declared.parts.DcFaultType.TheVariants.{PoleToGround, PoleToPole, ConverterInternal}
use Rattle.fault_circuit.specs.Circuit.{type_factor}
use Rattle.fault_plan.specs.declared.plan.FaultPlan.{FaultPlan}
use Rattle.fault_window.specs.declared.steps.Window.{Window}
use Rattle.fault_window.specs.Window.{window_of}
use Rattle.fault_sums.specs.declared.steps.Sums.{Sums}
use Rattle.fault_sums.specs.Sums.{sums_of, with_factor}
use Rattle.case_reasons.specs.declared.reasons.CaseOutcome.{CaseOutcome}
use Rattle.case_steps.specs.declared.open_case.OpenCase.{OpenCase}
use Rattle.case_steps.specs.OpenCases.{outcome_in}
use Rattle.case_steps.specs.Plans.{plan_case_from}
use Rattle.case_ends.specs.declared.ends.SiteEnds.{SiteEnds}

-- the steps in which the fault of a plan lasts, of those from `first` up to `end`
abbrev pub window_by : FaultPlan → (active : Bool) → (first end : ℕ) → Window
window_by p = window_of p.constants.dt_ms p.constants.circuit.inception_time_ms p.constants.breaker_clear_ms

-- what a case has summed up so far
abbrev pub sums_in : OpenCase → Sums
sums_in c = record { peak_ka = c.variables.peak_fault_ka; energy_mj = c.variables.energy_mj; current_ka = c.clearing_current_ka }

-- and after the steps of a window
abbrev pub sums_at : FaultPlan → Window → OpenCase → Sums
sums_at p w c = sums_of p.constants.circuit p.constants.dt_ms w.from (sums_in c) (w.to - w.from)

-- the outcome from what the steps of a window sum up to: the current of the last is that of the clearing step, if it clears
abbrev pub outcome_from : Window → Sums → (before : Float) → (detected : Bool) → CaseOutcome
outcome_from w s before shown =
    record {
      cleared = w.clears;
      clearing_current_ka = cond w.clears s.current_ka before;
      energy_mj = s.energy_mj;
      peak_fault_ka = s.peak_ka;
      detected = shown;
    }

-- the outcome of a case of which `first` steps are made and whose fault lasts through a window. Where it is cleared already, nothing changes any more.
unfoldable pub end_by : FaultPlan → (first : ℕ) → Window → OpenCase → CaseOutcome
end_by p first w c =
    cond c.variables.fault_cleared (outcome_in c)
    (outcome_from w (sums_at p w c) c.clearing_current_ka (plan_case_from p first c (w.to - first)).detected)

-- ---- the three types of fault at a place

-- the plan of another type of fault at the same place
abbrev pub of_type : FaultPlan → DcFaultType → FaultPlan
of_type p type =
    record {
      constants =
          record {
            n_stations = p.constants.n_stations;
            drain = p.constants.drain;
            circuit = with_factor p.constants.circuit (type_factor type);
            dt_ms = p.constants.dt_ms;
            duration_ms = p.constants.duration_ms;
            breaker_clear_ms = p.constants.breaker_clear_ms;
          };
      network = p.network;
      rated_kv = p.rated_kv;
    }

-- their outcomes, from the first step on
unfoldable pub site_of : FaultPlan → Window → OpenCase → SiteEnds
site_of p w c =
    record {
      to_ground = end_by (of_type p PoleToGround) 0 w c;
      pole = end_by (of_type p PoleToPole) 0 w c;
      internal = end_by (of_type p ConverterInternal) 0 w c;
    }
