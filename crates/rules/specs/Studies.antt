-- The rules 1 to 10 of document 01, their numbers, and the order in which each study checks them. Definitions only.
use Rattle.std.specs.Prelude.{ℕ, Bool, false, not, ◌||◌, cond, List, [], ◌∷◌, eqb, get_or, Result, Ok, Err}
use Rattle.part_checks.specs.PartChecks.{station_ok, fault_ok, order_ok}
use Rattle.grid.specs.declared.parts.ConverterStation.{ConverterStation}
use Rattle.grid.specs.declared.parts.DcFaultEvent.{DcFaultEvent}
use Rattle.grid.specs.declared.parts.SweepOrder.{SweepOrder}
use Rattle.grid.specs.declared.simulator.DcSwitchingSimulator.{DcSwitchingSimulator}
use Rattle.rule_tests.specs.Rules.{no_station, no_cable, too_many_parts, time_outside, too_many_steps, station_outside, cable_outside, breaker_outside}
use Rattle.rules.specs.declared.studies.Refusal.{Refusal}
use Rattle.rules.specs.declared.studies.Refusal.TheVariants.{NoStation, NoCable, TooManyParts, TimeOutside, TooManySteps, StationOutside, CableOutside, BreakerOutside, EventOutside, NotConverged}

-- ---- which rules are broken

-- Which of the rules are broken, from rule 1 on; there is no rule 0. Whether 9 is, a field of a fault or sweep order outside its range, is handed in.
abbrev pub rules : DcSwitchingSimulator → Bool → List Bool
rules g event_outside =
    false ∷
    no_station g ∷
    no_cable g ∷
    too_many_parts g ∷
    time_outside g ∷
    too_many_steps g ∷
    station_outside g ∷
    cable_outside g ∷
    breaker_outside g ∷
    event_outside ∷
    []

-- whether the rule of a number is
unfoldable pub broken : DcSwitchingSimulator → Bool → ℕ → Bool
broken g event_outside k = get_or (rules g event_outside) k false

-- ---- the order

-- Checked in the order 3, 1, 2, 4, 5, 6, 7, 8, 9, 10
abbrev pub order : List ℕ
order = 3 ∷ 1 ∷ 2 ∷ 4 ∷ 5 ∷ 6 ∷ 7 ∷ 8 ∷ 9 ∷ 10 ∷ []

-- the first that applies is returned, and 0 where none does
unfoldable pub first : (ℕ → Bool) → List ℕ → ℕ
first applies [] = 0
first applies (k ∷ ks) = cond (applies k) k (first applies ks)

-- an order less the rules that a study skips
abbrev pub among : List ℕ → ℕ → Bool
among [] k = false
among (j ∷ js) k = eqb j k || among js k

abbrev pub skipping : List ℕ → List ℕ → List ℕ
skipping skipped [] = []
skipping skipped (k ∷ ks) = cond (among skipped k) (skipping skipped ks) (k ∷ skipping skipped ks)

-- Flow skips 2, 4, 5, 9, 10; switching skips 2, 9, 10; detection checks 3, 1, 6, 7, 8
abbrev pub flow_order : List ℕ
flow_order = skipping (2 ∷ 4 ∷ 5 ∷ 9 ∷ 10 ∷ []) order

abbrev pub detection_order : List ℕ
detection_order = 3 ∷ 1 ∷ 6 ∷ 7 ∷ 8 ∷ []

abbrev pub switching_order : List ℕ
switching_order = skipping (2 ∷ 9 ∷ 10 ∷ []) order

-- 10 is for the sweep only, and comes last
abbrev pub fault_order : List ℕ
fault_order = skipping (10 ∷ []) order

-- ---- what each study refuses

unfoldable pub flow_refusal : DcSwitchingSimulator → ℕ
flow_refusal g = first (broken g false) flow_order

unfoldable pub detection_refusal : DcSwitchingSimulator → ℕ
detection_refusal g = first (broken g false) detection_order

unfoldable pub switching_refusal : DcSwitchingSimulator → ℕ
switching_refusal g = first (broken g false) switching_order

unfoldable pub fault_refusal : DcSwitchingSimulator → DcFaultEvent → ℕ
fault_refusal g fault = first (broken g (not (fault_ok fault))) fault_order

-- a sweep's refusal up to 9
unfoldable pub sweep_refusal : DcSwitchingSimulator → SweepOrder → ℕ
sweep_refusal g o = first (broken g (not (order_ok o))) fault_order

-- a sweep's start checks all of the order. Whether 10 is broken, the flow has not converged, is handed in.
abbrev pub start_broken : DcSwitchingSimulator → SweepOrder → (not_converged : Bool) → ℕ → Bool
start_broken g o not_converged k = cond (eqb k 10) not_converged (broken g (not (order_ok o)) k)

unfoldable pub start_refusal : DcSwitchingSimulator → SweepOrder → (not_converged : Bool) → ℕ
start_refusal g o not_converged = first (start_broken g o not_converged) order

-- an operating point checks 6 alone
unfoldable pub point_refusal : ConverterStation → ℕ
point_refusal s = cond (station_ok s) 0 6

-- ---- the answer

-- the number that 01 has for each refusal
unfoldable pub rule_number : Refusal → ℕ
rule_number NoStation = 1
rule_number NoCable = 2
rule_number TooManyParts = 3
rule_number TimeOutside = 4
rule_number TooManySteps = 5
rule_number StationOutside = 6
rule_number CableOutside = 7
rule_number BreakerOutside = 8
rule_number EventOutside = 9
rule_number NotConverged = 10

-- the number of an answer: the refusal's, and 0 for what is accepted
unfoldable pub number_of : {A : Type 0} → Result A Refusal → ℕ
number_of (Ok x) = 0
number_of (Err refusal) = rule_number refusal
