-- The claims of specs/Claims. Assumes nothing.
use Prim.Native.Nat.{ℕ, ◌<◌, ◌≤◌}
use native.Mathlib.Bridge.{le_prop}
use native.Mathlib.Omega.{arith}
use mathlib.Core.Path.{◌≡◌, refl, sym, ap, ◌∙◌}
use mathlib.Core.HLevel.{is_prop→PathP, ×_prop, ¬_prop}
use mathlib.Core.List.{[], ◌∷◌}
use mathlib.Core.Logic.{◌≢◌}
use lib.ListN.{get_or}
use Rattle.std.specs.Prelude.{Option, Some, None, Result, Ok, Err}
use Rattle.line_order.specs.Ordered as ordered
use Rattle.line_order.specs.declared.order.LineFault.{LineFault}
use Rattle.line_order.specs.declared.order.LineFault.TheVariants.{WrongForm, WrongOrder}
use Rattle.rules.specs.declared.studies.Refusal as rules
use Rattle.rules.specs.declared.studies.Refusal.TheVariants.{NoStation, NoCable, TooManyParts, TimeOutside, TooManySteps, StationOutside, CableOutside, BreakerOutside, EventOutside, NotConverged}
use Rattle.rules.specs.Studies.{rule_number}
use Rattle.whole_sheets.specs.Claims.{FaultClaims}
use Rattle.whole_sheets.specs.Sheets.{Refusal, fault_number, fault_in, printed_of}
use Rattle.whole_sheets.specs.declared.answers.SheetFault.{SheetFault}
use Rattle.whole_sheets.specs.declared.answers.SheetFault.TheVariants.{Line, Rule, Other}
use Rattle.whole_sheets.specs.declared.answers.SheetRefusal.{SheetRefusal}
use Rattle.whole_sheets.specs.declared.other.OtherNumber.{OtherNumber}
use Rattle.whole_sheets.proofs.Printed.{never_0}

-- the fault of a line's or a rule's number; neither has 0 or 11
fault_of : ℕ → SheetFault
fault_of n =
    get_or
    (Rule NotConverged ∷ Rule NoStation ∷ Rule NoCable ∷ Rule TooManyParts ∷ Rule TimeOutside ∷ Rule TooManySteps ∷ Rule StationOutside ∷ Rule CableOutside ∷ Rule BreakerOutside ∷ Rule EventOutside ∷ Rule NotConverged ∷ Rule NotConverged ∷ Line WrongForm ∷ Line WrongOrder ∷ [])
    n
    (Rule NotConverged)

line_back : (f : LineFault) → fault_of (ordered.fault_number f) ≡ Line f
unfolding fault_of
line_back WrongForm = refl
line_back WrongOrder = refl

rule_back : (r : rules.Refusal) → fault_of (rule_number r) ≡ Rule r
unfolding fault_of rule_number
rule_back NoStation = refl
rule_back NoCable = refl
rule_back TooManyParts = refl
rule_back TimeOutside = refl
rule_back TooManySteps = refl
rule_back StationOutside = refl
rule_back CableOutside = refl
rule_back BreakerOutside = refl
rule_back EventOutside = refl
rule_back NotConverged = refl

rule_most : (r : rules.Refusal) → rule_number r ≤ 10
unfolding rule_number
rule_most NoStation = omega arith
rule_most NoCable = omega arith
rule_most TooManyParts = omega arith
rule_most TimeOutside = omega arith
rule_most TooManySteps = omega arith
rule_most StationOutside = omega arith
rule_most CableOutside = omega arith
rule_most BreakerOutside = omega arith
rule_most EventOutside = omega arith
rule_most NotConverged = omega arith

-- ---- a number that no line and no rule has

same_number : (x y : OtherNumber) → x.number ≡ y.number → x ≡ y
same_number x y e =
    λ i.
    record {
      number = e i;
      no_rule = is_prop→PathP (λ j. 10 < e j) (λ j. le_prop) x.no_rule y.no_rule i;
      no_line = is_prop→PathP (λ j. (e j ≢ 12) × (e j ≢ 13)) (λ j. ×_prop ¬_prop ¬_prop) x.no_line y.no_line i;
    }

other_known : (x : OtherNumber) (f : SheetFault) → x.number ≡ fault_number f → Other x ≡ f
other_known x (Line WrongForm) e = absurd (x.no_line.0 e)
other_known x (Line WrongOrder) e = absurd (x.no_line.1 e)
other_known x (Rule r) e = let h = x.no_rule in let k = rule_most r in absurd (omega arith)
other_known x (Other y) e = ap Other (same_number x y e)

-- ---- the claims

known : (f g : SheetFault) → fault_number f ≡ fault_number g → f ≡ g
known (Line f) (Line g) e = sym (line_back f) ∙ ap fault_of e ∙ line_back g
known (Line f) (Rule r) e = sym (line_back f) ∙ ap fault_of e ∙ rule_back r
known (Line f) (Other x) e = sym (other_known x (Line f) (sym e))
known (Rule r) (Line f) e = sym (rule_back r) ∙ ap fault_of e ∙ line_back f
known (Rule r) (Rule s) e = sym (rule_back r) ∙ ap fault_of e ∙ rule_back s
known (Rule r) (Other x) e = sym (other_known x (Rule r) (sym e))
known (Other x) f e = other_known x f e

-- a number above 0 has one fault
pub only_one : (o : Option SheetFault) (f : SheetFault) → fault_in o ≡ fault_number f → o ≡ Some f
only_one None f e = absurd (never_0 f (sym e))
only_one (Some g) f e = ap Some (known g f e)

same : (r s : SheetRefusal) → r.fault ≡ s.fault → r.line ≡ s.line → r ≡ s
same r s e h = λ t. record { fault = e t; line = h t }

printed : (r s : Result (Unit {0}) SheetRefusal) → printed_of r ≡ printed_of s → r ≡ s
printed (Ok x) (Ok y) e = refl
printed (Ok x) (Err s) e = absurd (never_0 s.fault (sym (ap (λ (a : Refusal). a.number) e)))
printed (Err r) (Ok x) e = absurd (never_0 r.fault (ap (λ (a : Refusal). a.number) e))
printed (Err r) (Err s) e =
    ap Err (same r s (known r.fault s.fault (ap (λ (a : Refusal). a.number) e)) (ap (λ (a : Refusal). a.line) e))

pub fault_claims : FaultClaims
fault_claims = record { known = known; printed = printed }
