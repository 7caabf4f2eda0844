-- Worked examples of the definitions: they are believed, so a wrong clause need break no other proof. The answers were worked out by hand. Assumes nothing.
use Prim.Native.Nat.{ℕ, ◌+◌, ◌*◌}
use mathlib.Core.Path.{◌≡◌, refl}
use mathlib.Core.Bool.{Bool, true, false}
use Rattle.std.specs.Prelude.{Option, Some, None}
use Rattle.lists.specs.Tables.{tab}
use Rattle.float64.specs.Constants.{nought, decimal}
use Rattle.grid.specs.declared.parts.SweepOrder.{SweepOrder}
use Rattle.grid.specs.declared.simulator.DcSwitchingSimulator.{DcSwitchingSimulator}
use Rattle.fault_plan.specs.declared.plan.FaultConstants.{FaultConstants}
use Rattle.fault_window.specs.declared.steps.Window.{Window}
use Rattle.fault_window.specs.Window.{window_of}
use Rattle.fault_cases.specs.Cases.{place_of}
use Rattle.case_reasons.specs.declared.reasons.CaseOutcome.{CaseOutcome}
use Rattle.case_steps.specs.declared.open_case.OpenCase.{OpenCase}
use Rattle.case_ends.specs.declared.ends.SiteEnds.{SiteEnds}
use Rattle.sweep_cases.specs.Plans.{common_of}
use Rattle.closed_cases.specs.declared.cable.CableEnds.{CableEnds}
use Rattle.closed_cases.specs.Cables.{window_in, end_for, tried, whole_cable, closed_by}

-- tenths 2 to 6: 15 cases on a cable, of which cases 0 to 4 are faults to ground
order : SweepOrder
order = record { fault_resistance = nought; inception_time_ms = nought; low_tenth = 2; high_tenth = 6 }

-- outcomes that are told apart by their peaks: ten times the tenth, and the type
peak : ℕ → CaseOutcome
peak n = record { cleared = false; clearing_current_ka = nought; energy_mj = nought; peak_fault_ka = decimal n 1; detected = false }

site : ℕ → SiteEnds
site tenth = record { to_ground = peak (10 * tenth); pole = peak (10 * tenth + 1); internal = peak (10 * tenth + 2) }

-- of the second cable
second : Option CableEnds
second = Some (record { cable = 1; sites = tab 11 site })

module _ (g : DcSwitchingSimulator) (closes : Bool) (made : ℕ) (c : OpenCase) where
  -- the first case on that cable, a fault from pole to pole and one inside the converter at tenth 5, and the last
  looked_up_lem
      : (closed_by (common_of g order closes) second true 15 made c ≡ peak 20)
      × (closed_by (common_of g order closes) second true 23 made c ≡ peak 51)
      × (closed_by (common_of g order closes) second true 28 made c ≡ peak 52)
      × (closed_by (common_of g order closes) second true 29 made c ≡ peak 62)
  unfolding closed_by common_of order peak site second tab
  looked_up_lem = (refl, refl, refl, refl)

  -- the last case of the cable before, the first of the one after, a case that is not fresh, and one where nothing is held
  worked-out
      : (closed_by (common_of g order closes) second true 14 made c ≡ end_for (common_of g order closes) (record { cable = 0; fault_type = 2; tenth = 6 }) made c)
      × (closed_by (common_of g order closes) second true 30 made c ≡ end_for (common_of g order closes) (record { cable = 2; fault_type = 0; tenth = 2 }) made c)
      × (closed_by (common_of g order closes) second false 23 made c ≡ end_for (common_of g order closes) (record { cable = 1; fault_type = 1; tenth = 5 }) made c)
      × (closed_by (common_of g order closes) None true 23 made c ≡ end_for (common_of g order closes) (record { cable = 1; fault_type = 1; tenth = 5 }) made c)
  unfolding closed_by common_of order second
  worked-out = (refl, refl, refl, refl)

tried_are : (tried order 1 ≡ false) × (tried order 2 ≡ true) × (tried order 6 ≡ true) × (tried order 7 ≡ false)
unfolding order
tried_are = (refl, refl, refl, refl)

-- 15 cases of 100 steps: just enough, a step too few, a row too few, and then the second case and the first of the second type
whole_are
    : (whole_cable order (place_of order 15) 100 1500 15 ≡ true)
    × (whole_cable order (place_of order 15) 100 1499 15 ≡ false)
    × (whole_cable order (place_of order 15) 100 1500 14 ≡ false)
    × (whole_cable order (place_of order 16) 100 1500 15 ≡ false)
    × (whole_cable order (place_of order 20) 100 1500 15 ≡ false)
unfolding order
whole_are = (refl, refl, refl, refl, refl)

-- no step is made; a step is made; none is, and the fault is active
windows-are
    : (w : Window) (k : FaultConstants)
    → (window_in w k 9 0 false ≡ w)
    × (window_in w k 9 1 false ≡ window_of k.dt_ms k.circuit.inception_time_ms k.breaker_clear_ms false 1 9)
    × (window_in w k 9 0 true ≡ window_of k.dt_ms k.circuit.inception_time_ms k.breaker_clear_ms true 0 9)
windows-are w k = (refl, refl, refl)
