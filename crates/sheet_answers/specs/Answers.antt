-- The answer of a reading, as the code does it; `SheetClaims` says that this gives `sheet_answer`. Definitions only.
use Rattle.std.specs.Prelude.{ℕ, Bool, false, not, ◌||◌, cond, eqb, ltb}
use Rattle.part_checks.specs.PartChecks.{order_ok}
use Rattle.rules.specs.Studies.{broken, first, fault_order}
use Rattle.whole_sheets.specs.Sheets.{Refusal, SheetAnswer, refused, fault_in, answered}
use Rattle.sheet_parts.specs.Parts.{counted_on}
use Rattle.sheet_bytes.specs.Bytes.{ended_of}
use Rattle.taken_lines.specs.declared.taken.Sheet.{Sheet}
use Rattle.sheet_bytes.specs.declared.bytes.Reading.{Reading}

-- the rules that the grid and the order show, or one of 6, 7 and 8 that a line shows
unfoldable pub rule_broken : Sheet → ℕ → Bool
rule_broken s rule =
    broken s.grid (not (order_ok s.order)) rule ||
    cond (eqb rule 6) (not (eqb s.bad_station 0))
    (cond (eqb rule 7) (not (eqb s.bad_cable 0))
    (cond (eqb rule 8) (not (eqb s.bad_breaker 0)) false))

unfoldable pub rule_refusal : Sheet → ℕ
rule_refusal s = first (rule_broken s) fault_order

-- where none of 1 to 5 is broken: the rule that the grid and the order show, or an earlier one of 6, 7 and 8 that a line shows
unfoldable pub line_rule : Sheet → (shown : ℕ) → ℕ
line_rule s shown =
    cond (eqb shown 6 || not (eqb s.bad_station 0)) 6
    (cond (eqb shown 7 || not (eqb s.bad_cable 0)) 7
    (cond (eqb shown 8 || not (eqb s.bad_breaker 0)) 8 shown))

unfoldable pub rule_line : Sheet → (rule : ℕ) → ℕ
rule_line s rule =
    cond (eqb rule 4) 1
    (cond (eqb rule 6) s.bad_station
    (cond (eqb rule 7) s.bad_cable
    (cond (eqb rule 8) s.bad_breaker
    (cond (eqb rule 9) 2 0))))

unfoldable pub refusal_in : Sheet → Refusal
refusal_in s =
    cond (eqb (fault_in s.fault) 0)
    (cond (ltb s.lines 2) (refused 13 (counted_on s.lines)) (refused (rule_refusal s) (rule_line s (rule_refusal s))))
    (refused (fault_in s.fault) (counted_on s.lines))

unfoldable pub answer_of : Reading → SheetAnswer
answer_of r = answered (refusal_in (ended_of r)) (ended_of r).grid (ended_of r).order
