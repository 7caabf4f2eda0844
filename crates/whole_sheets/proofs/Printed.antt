-- A refusal is never printed as 0, so that a result of which 0 would be printed is Ok. Assumes nothing.
use Prim.Native.Nat.{ℕ}
use mathlib.Core.Path.{◌≡◌, refl, ap}
use native.Mathlib.Omega.{arith}
use Rattle.std.proofs.Common.{Result, Ok, Err, IfOk, IsOkAnd}
use Rattle.line_order.specs.declared.order.LineFault.TheVariants.{WrongForm, WrongOrder}
use Rattle.rules.specs.Studies.{number_of}
use Rattle.rules.proofs.Outcomes.{not_nought}
use Rattle.whole_sheets.specs.Sheets.{Refusal, none, fault_number, printed_of}
use Rattle.whole_sheets.specs.declared.answers.SheetFault.{SheetFault}
use Rattle.whole_sheets.specs.declared.answers.SheetFault.TheVariants.{Line, Rule, Other}
use Rattle.whole_sheets.specs.declared.answers.SheetRefusal.{SheetRefusal}

pub never_0 : (f : SheetFault) → fault_number f ≡ 0 → ⊥
unfolding number_of
never_0 (Line WrongForm) e = absurd (omega arith)
never_0 (Line WrongOrder) e = absurd (omega arith)
never_0 (Rule r) e = not_nought {A = ℕ} (Err r) refl e
never_0 (Other n) e = let h = n.no_rule in absurd (omega arith)

pub ok_and : {A : Type 0} (P : A → Type 0) (r : Result A SheetRefusal) → printed_of r ≡ none → IfOk r P → IsOkAnd r P
ok_and P (Ok x) e p = p
ok_and P (Err x) e p = absurd (never_0 x.fault (ap (λ (a : Refusal). a.number) e))
