-- Worked examples of the definitions: they are believed, so a wrong clause need break no other proof. Written by hand from document 01.9.
use Rattle.std.proofs.Common.{Some, None}
use mathlib.Core.Path.{◌≡◌, refl}
use mathlib.Core.Bool.{true, false}
use mathlib.Core.List.{[], ◌∷◌}
use lib.Ieee.{of_bits}
use Rattle.float64.specs.Constants.{nought}
use Prim.Native.Nat.{◌+◌, ◌^◌}
use lib.IntN.{pos}
use native.Mathlib.Omega.{arith}
use lib.Ieee.{binary64, of_int, le, round}
use Rattle.ranges.specs.Ranges.{real_in, whole_in}
use Rattle.part_checks.specs.PartChecks.{topology_ok, station_ok, cable_ok, breaker_type_ok, breaker_ok}
use Rattle.grid.specs.Simulator.{blank_station, blank_cable, blank_breaker, new_simulator}
use Rattle.grid.specs.declared.parts.ConverterStation.{ConverterStation}
use Rattle.grid.specs.declared.parts.ConverterTopology.TheVariants.{Lcc}
use Rattle.grid.specs.declared.parts.SweepOrder.{SweepOrder}
use Rattle.grid.specs.declared.simulator.DcSwitchingSimulator.{DcSwitchingSimulator}
use Rattle.sheet_lines.specs.declared.line.SheetLine.TheVariants.{Times, Order, Station, Cable, Breaker}
use Rattle.line_order.specs.Ordered.{in_order, line_refusal}
use Prim.Native.Nat.{ℕ}
use Rattle.std.proofs.Common.{Ok, Err}
use Rattle.line_order.specs.declared.order.LineFault.TheVariants.{WrongForm, WrongOrder}
use Rattle.rules.specs.Studies.{rule_number}
use Rattle.rules.specs.declared.studies.Refusal.TheVariants.{CableOutside}
use Rattle.whole_sheets.specs.declared.answers.SheetFault.TheVariants.{Line, Rule, Other}
use Rattle.whole_sheets.specs.declared.other.OtherNumber.{OtherNumber}
use Rattle.whole_sheets.specs.Sheets.{fault_in, printed_of, lines_of, most_lines, no_order, refused, form_refusal, shown_at, first_bad, bad_station, bad_cable, bad_breaker, refusal_of, answered}

-- no line: 13 at line 1; T: 13 at line 2; O: 13 at line 1; T S: 13 at line 2; T T: 13 at line 2; T O T: 13 at line 3; T O O: 13 at line 3; T O S C S: 13 at line 5; T O C B C: 13 at line 5; T O S, a line of wrong form, T: 12 at line 4; T, then one of wrong form where O is missing: 12 at line 2; T O S C B: none; T O: none; T O S B B: none
orders_are : (form_refusal 0 0 ([]) ≡ refused 13 1) × (form_refusal 0 0 (Some (Times nought nought) ∷ []) ≡ refused 13 2) × (form_refusal 0 0 (Some (Order no_order) ∷ []) ≡ refused 13 1) × (form_refusal 0 0 (Some (Times nought nought) ∷ (Some (Station blank_station true)) ∷ []) ≡ refused 13 2) × (form_refusal 0 0 (Some (Times nought nought) ∷ (Some (Times nought nought)) ∷ []) ≡ refused 13 2) × (form_refusal 0 0 (Some (Times nought nought) ∷ (Some (Order no_order)) ∷ (Some (Times nought nought)) ∷ []) ≡ refused 13 3) × (form_refusal 0 0 (Some (Times nought nought) ∷ (Some (Order no_order)) ∷ (Some (Order no_order)) ∷ []) ≡ refused 13 3) × (form_refusal 0 0 (Some (Times nought nought) ∷ (Some (Order no_order)) ∷ (Some (Station blank_station true)) ∷ (Some (Cable blank_cable)) ∷ (Some (Station blank_station true)) ∷ []) ≡ refused 13 5) × (form_refusal 0 0 (Some (Times nought nought) ∷ (Some (Order no_order)) ∷ (Some (Cable blank_cable)) ∷ (Some (Breaker blank_breaker true)) ∷ (Some (Cable blank_cable)) ∷ []) ≡ refused 13 5) × (form_refusal 0 0 (Some (Times nought nought) ∷ (Some (Order no_order)) ∷ (Some (Station blank_station true)) ∷ None ∷ (Some (Times nought nought)) ∷ []) ≡ refused 12 4) × (form_refusal 0 0 (Some (Times nought nought) ∷ None ∷ []) ≡ refused 12 2) × (form_refusal 0 0 (Some (Times nought nought) ∷ (Some (Order no_order)) ∷ (Some (Station blank_station true)) ∷ (Some (Cable blank_cable)) ∷ (Some (Breaker blank_breaker true)) ∷ []) ≡ refused 0 0) × (form_refusal 0 0 (Some (Times nought nought) ∷ (Some (Order no_order)) ∷ []) ≡ refused 0 0) × (form_refusal 0 0 (Some (Times nought nought) ∷ (Some (Order no_order)) ∷ (Some (Station blank_station true)) ∷ (Some (Breaker blank_breaker true)) ∷ (Some (Breaker blank_breaker true)) ∷ []) ≡ refused 0 0)
unfolding line_refusal in_order
orders_are = (refl, refl, refl, refl, refl, refl, refl, refl, refl, refl, refl, refl, refl, refl)

-- two lines and one that has not ended: each keeps its line feed
lines_are : lines_of (84 ∷ 10 ∷ 10 ∷ 79 ∷ 32 ∷ []) ≡ (84 ∷ 10 ∷ []) ∷ (10 ∷ []) ∷ (79 ∷ 32 ∷ []) ∷ []
lines_are = refl

-- T, O, two stations that are not known: the first bad S line is line 3
bad_is : first_bad bad_station 0 (Some (Times nought nought) ∷ (Some (Order no_order)) ∷ (Some (Station blank_station false)) ∷ (Some (Station blank_station false)) ∷ (Some (Cable blank_cable)) ∷ []) ≡ 3
bad_is = refl

-- X's line: T's for 4, O's for 9, the first bad one for 6, and none for 1, 2, 3, 5
shown_are : (shown_at (Some (Times nought nought) ∷ (Some (Order no_order)) ∷ (Some (Station blank_station false)) ∷ []) 4 ≡ 1) × (shown_at (Some (Times nought nought) ∷ (Some (Order no_order)) ∷ (Some (Station blank_station false)) ∷ []) 6 ≡ 3) × (shown_at (Some (Times nought nought) ∷ (Some (Order no_order)) ∷ []) 9 ≡ 2) × (shown_at (Some (Times nought nought) ∷ (Some (Order no_order)) ∷ []) 3 ≡ 0) × (shown_at (Some (Times nought nought) ∷ (Some (Order no_order)) ∷ []) 1 ≡ 0) × (shown_at (Some (Times nought nought) ∷ (Some (Order no_order)) ∷ []) 2 ≡ 0) × (shown_at (Some (Times nought nought) ∷ (Some (Order no_order)) ∷ []) 5 ≡ 0)
unfolding shown_at
shown_are = (refl, refl, refl, refl, refl, refl, refl)

-- a station of 100 kV whose fields are all in range
abbrev good_station : ConverterStation
good_station =
    record {
      id = 0;
      topology = Lcc;
      v_dc_rated_kv = of_int binary64 (pos 100);
      p_rated_mw = nought;
      x_transformer_pu = nought;
      scr = nought;
      control_angle_deg = nought;
      x_commutation_pu = nought;
      arm_inductance_mh = nought;
      sm_capacitance_uf = nought;
    }

-- a station in range that is known, one that is not, and one of 0 kV; a cable and a breaker of zeros, and that breaker not known
bad_are : (bad_station (Some (Station good_station true)) ≡ false) × (bad_station (Some (Station good_station false)) ≡ true) × (bad_station (Some (Station blank_station true)) ≡ true) × (bad_cable (Some (Cable blank_cable)) ≡ false) × (bad_breaker (Some (Breaker blank_breaker true)) ≡ false) × (bad_breaker (Some (Breaker blank_breaker false)) ≡ true)
unfolding topology_ok station_ok cable_ok breaker_type_ok breaker_ok real_in whole_in le of_int of_bits round
bad_are = (refl, refl, refl, refl, refl, refl)

-- T and a line of wrong form: 12 comes before the rules 1 and 2, which are broken too
form_first : refusal_of (Some (Times nought nought) ∷ None ∷ []) ≡ refused 12 2
unfolding refusal_of line_refusal in_order
form_first = refl

-- beside a refusal nothing of the sheet stands
nothing_beside : (g : DcSwitchingSimulator) (o : SweepOrder) → answered (refused 3 0) g o ≡ record { refusal = refused 3 0; grid = new_simulator nought nought; order = no_order }
unfolding answered
nothing_beside g o = refl

-- twelve columns hold the number of the last line that is read, and not that of the next
most_is : most_lines + 1 ≡ 10 ^ 12
most_is = refl

-- two numbers that no line and no rule has
abbrev eleven : OtherNumber
eleven = record { number = 11; no_rule = omega arith; no_line = (λ e. omega arith, λ e. omega arith) }

abbrev ninety_nine : OtherNumber
ninety_nine = record { number = 99; no_rule = omega arith; no_line = (λ e. omega arith, λ e. omega arith) }

-- 7 is a rule's number, 12 and 13 are a line's, 11 and 99 neither's, and 0 is that of no fault
faults_are : (fault_in (Some (Rule CableOutside)) ≡ 7) × (fault_in (Some (Other eleven)) ≡ 11) × (fault_in (Some (Line WrongForm)) ≡ 12) × (fault_in (Some (Line WrongOrder)) ≡ 13) × (fault_in (Some (Other ninety_nine)) ≡ 99) × (fault_in None ≡ 0)
unfolding rule_number
faults_are = (refl, refl, refl, refl, refl, refl)

-- what X prints of a result: the number and the line as they are, and nothing of what is not refused
printed_are : (printed_of {A = ℕ} (Err (record { fault = Line WrongOrder; line = 4 })) ≡ refused 13 4) × (printed_of {A = ℕ} (Err (record { fault = Rule CableOutside; line = 7 })) ≡ refused 7 7) × (printed_of {A = ℕ} (Err (record { fault = Other ninety_nine; line = 2 })) ≡ refused 99 2) × (printed_of {A = ℕ} (Ok 5) ≡ refused 0 0)
unfolding rule_number
printed_are = (refl, refl, refl, refl)
