-- The outcomes of the cases that a call closes: of one from what is kept of it, of all on a cable from its places. Definitions only: proofs/AllSteps says that they
-- are what the steps one by one lead to.
use Rattle.std.specs.Prelude.{ℕ, ◌*◌, ◌/◌, Bool, false, not, ◌&&◌, cond, eqb, leb, get_or, Option, Some, None}
use Rattle.lists.specs.Tables.{tab}
use Rattle.float64.specs.Constants.{nought}
use Rattle.grid.specs.declared.parts.DcFaultType.{DcFaultType}
use Rattle.grid.specs.declared.parts.DcFaultType.TheVariants.{PoleToGround, PoleToPole, ConverterInternal}
use Rattle.grid.specs.declared.parts.SweepOrder.{SweepOrder}
use Rattle.fault_plan.specs.declared.plan.FaultConstants.{FaultConstants}
use Rattle.fault_window.specs.declared.steps.Window.{Window}
use Rattle.fault_window.specs.Window.{window_of}
use Rattle.fault_cases.specs.declared.cases.CasePlace.{CasePlace}
use Rattle.fault_cases.specs.Cases.{tenths_of, types, fault_type, place_of}
use Rattle.case_reasons.specs.declared.reasons.CaseOutcome.{CaseOutcome}
use Rattle.case_steps.specs.declared.open_case.OpenCase.{OpenCase}
use Rattle.case_steps.specs.OpenCases.{start_case}
use Rattle.case_ends.specs.declared.ends.SiteEnds.{SiteEnds}
use Rattle.case_ends.specs.Ends.{end_by, site_of}
use Rattle.sweep_cases.specs.declared.cases.Common.{Common}
use Rattle.sweep_cases.specs.Plans.{plan_at}
use Rattle.closed_cases.specs.declared.cable.CableEnds.{CableEnds}

-- ---- one case

-- the steps in which a fault lasts: `whole` are those of a case from its first step
abbrev pub window_in : (whole : Window) → FaultConstants → (steps made : ℕ) → (active : Bool) → Window
window_in whole k steps made active =
    cond (eqb made 0 && not active) whole (window_of k.dt_ms k.circuit.inception_time_ms k.breaker_clear_ms active made steps)

-- the outcome of the case at a place, of which `made` steps are made
abbrev pub end_for : Common → CasePlace → (made : ℕ) → OpenCase → CaseOutcome
end_for x place made c =
    let p = plan_at x place in
    end_by p made (window_in x.window p.constants x.n_steps made c.variables.fault_active) c

-- ---- all cases of a cable

abbrev pub blank_outcome : CaseOutcome
blank_outcome = record { cleared = false; clearing_current_ka = nought; energy_mj = nought; peak_fault_ka = nought; detected = false }

abbrev pub blank_site : SiteEnds
blank_site = record { to_ground = blank_outcome; pole = blank_outcome; internal = blank_outcome }

-- a tenth that an order tries
abbrev pub tried : SweepOrder → ℕ → Bool
tried o tenth = leb o.low_tenth tenth && leb tenth o.high_tenth && leb tenth 10

-- the outcomes of the three types at a tenth of a cable
unfoldable pub site_at : Common → (cable tenth : ℕ) → SiteEnds
site_at x cable tenth =
    cond (tried x.order tenth)
    (site_of (plan_at x (record { cable = cable; fault_type = 0; tenth = tenth })) x.window (start_case x.grid))
    blank_site

-- no cable is held
abbrev pub no_cable : Option CableEnds
no_cable = None

abbrev pub cable_of : Common → (cable : ℕ) → CableEnds
cable_of x cable = record { cable = cable; sites = tab 11 (site_at x cable) }

-- of one type
abbrev pub in_site : SiteEnds → DcFaultType → CaseOutcome
in_site s PoleToGround = s.to_ground
in_site s PoleToPole = s.pole
in_site s ConverterInternal = s.internal

-- the first case of a cable, and steps and room for all of them
abbrev pub whole_cable : SweepOrder → CasePlace → (steps allowed room : ℕ) → Bool
whole_cable o place steps allowed room =
    eqb place.fault_type 0
    && eqb place.tenth o.low_tenth
    && leb steps (allowed / (types * tenths_of o))
    && leb (types * tenths_of o) room

-- what a call holds before it closes case k
abbrev pub held_for : Common → Option CableEnds → (k allowed room : ℕ) → Option CableEnds
held_for x before k allowed room =
    let place = place_of x.order k in
    cond (whole_cable x.order place x.n_steps allowed room) (Some (cable_of x place.cable)) before

-- ---- what a call takes: what it holds of a case that is fresh, and else what it works out
unfoldable pub closed_by : Common → Option CableEnds → (fresh : Bool) → (k made : ℕ) → OpenCase → CaseOutcome
closed_by x None fresh k made c = end_for x (place_of x.order k) made c
closed_by x (Some ends) fresh k made c =
    let place = place_of x.order k in
    cond (fresh && eqb ends.cable place.cable && tried x.order place.tenth)
    (in_site (get_or ends.sites place.tenth blank_site) (fault_type place.fault_type))
    (end_for x place made c)
