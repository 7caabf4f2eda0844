-- The order of the lines of a sheet, as document 01.9 has it: "One T, one O, then S, C, B." Definitions only.
use Rattle.std.specs.Prelude.{ℕ, Bool, ◌&&◌, cond, eqb, ltb, leb, Result, Ok, Err, Option, Some, None}
use Rattle.sheet_lines.specs.declared.line.SheetLine.{SheetLine}
use Rattle.sheet_lines.specs.declared.line.SheetLine.TheVariants.{Times, Order, Station, Cable, Breaker}
use Rattle.line_order.specs.declared.order.LineFault.{LineFault}
use Rattle.line_order.specs.declared.order.LineFault.TheVariants.{WrongForm, WrongOrder}

-- a line of wrong form has no place among the five
abbrev pub no_place : ℕ
no_place = 5

-- the place of a line in T, O, S, C, B
abbrev pub place_of : Option SheetLine → ℕ
place_of (Some (Times dt duration)) = 0
place_of (Some (Order o)) = 1
place_of (Some (Station s known)) = 2
place_of (Some (Cable c)) = 3
place_of (Some (Breaker b known)) = 4
place_of None = no_place

-- a line of this place may stand behind k lines, the last of which has the place `before`: T first, O second, then S, C, B, none of them behind a later letter
unfoldable pub in_order : (k before place : ℕ) → Bool
in_order k before place = cond (ltb k 2) (eqb place k) (leb 2 place && leb before place)

-- "12 a sheet line of wrong form, 13 sheet lines missing or in wrong order .. 12 first in one line", and 0 for a line in its place
unfoldable pub line_refusal : (k before place : ℕ) → ℕ
line_refusal k before place = cond (eqb place no_place) 12 (cond (in_order k before place) 0 13)

-- 01's number of each fault, and of an answer, 0 for a line in its place
abbrev pub fault_number : LineFault → ℕ
fault_number WrongForm = 12
fault_number WrongOrder = 13

abbrev pub refusal_number : Result Unit LineFault → ℕ
refusal_number (Ok x) = 0
refusal_number (Err f) = fault_number f
