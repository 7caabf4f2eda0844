-- A whole sheet, as document 01 has it: the lines of the text in order, by which rule and line it is refused, and its grid and order. Definitions only.
use Rattle.std.specs.Prelude.{ℕ, ◌+◌, Bool, true, false, not, ◌&&◌, cond, List, [], ◌∷◌, ◌++◌, map, eqb, ltb, length, take, replicate, Result, Ok, Err, Option, Some, None}
use Rattle.float64.specs.Constants.{nought}
use Rattle.part_checks.specs.PartChecks.{station_ok, cable_ok, breaker_ok, order_ok}
use Rattle.grid.specs.Simulator.{blank_station, blank_cable, blank_breaker, new_simulator}
use Rattle.grid.specs.declared.parts.ConverterStation.{ConverterStation}
use Rattle.grid.specs.declared.parts.DcCable.{DcCable}
use Rattle.grid.specs.declared.parts.DcBreaker.{DcBreaker}
use Rattle.grid.specs.declared.parts.SweepOrder.{SweepOrder}
use Rattle.grid.specs.declared.simulator.DcSwitchingSimulator.{DcSwitchingSimulator}
use Rattle.rules.specs.Studies.{broken, first, fault_order}
use Rattle.sheet_lines.specs.Lines.{line_of}
use Rattle.sheet_lines.specs.declared.line.SheetLine.{SheetLine}
use Rattle.sheet_lines.specs.declared.line.SheetLine.TheVariants.{Times, Order, Station, Cable, Breaker}
use Rattle.line_order.specs.Ordered.{place_of, line_refusal}
use Rattle.line_order.specs.Ordered as ordered
use Rattle.rules.specs.Studies.{rule_number}
use Rattle.whole_sheets.specs.declared.answers.SheetContents.{SheetContents}
use Rattle.whole_sheets.specs.declared.answers.SheetFault.{SheetFault}
use Rattle.whole_sheets.specs.declared.answers.SheetFault.TheVariants.{Line, Rule, Other}
use Rattle.whole_sheets.specs.declared.answers.SheetRefusal.{SheetRefusal}

-- ---- the lines of a text

-- a byte in front of the first line
abbrev pub before : ℕ → List (List ℕ) → List (List ℕ)
before b [] = (b ∷ []) ∷ []
before b (l ∷ ls) = (b ∷ l) ∷ ls

-- each with its line feed, but for what stands behind the last line feed
abbrev pub lines_of : List ℕ → List (List ℕ)
lines_of [] = []
lines_of (b ∷ bs) = cond (eqb b 10) ((b ∷ []) ∷ lines_of bs) (before b (lines_of bs))

-- line numbers go to the widest that X prints in 12 columns, and reading stops there
abbrev pub most_lines : ℕ
most_lines = 999999999999

-- what the lines say
unfoldable pub said : List ℕ → List (Option SheetLine)
said text = take most_lines (map line_of (lines_of text))

-- ---- 12 and 13, by first line

-- as X prints them: the number of the rule that a sheet breaks and of the line that shows it; 0 and 0 where it breaks none
pub record Refusal : Type 0 where
  pub number : ℕ
  pub line : ℕ

abbrev pub refused : (number line : ℕ) → Refusal
refused number line = record { number = number; line = line }

abbrev pub none : Refusal
none = refused 0 0

-- The lines behind k of them, the last of which has the place `before`. "a line out of order .. is reported itself, a missing T or O at the line that stands in its place, or one past the last if none does."
abbrev pub form_refusal : (k before : ℕ) → List (Option SheetLine) → Refusal
form_refusal k before [] = cond (ltb k 2) (refused 13 (k + 1)) none
form_refusal k before (l ∷ ls) = cond (eqb (line_refusal k before (place_of l)) 0) (form_refusal (k + 1) (place_of l) ls) (refused (line_refusal k before (place_of l)) (k + 1))

-- ---- the grid and the order

abbrev pub stations_in : List (Option SheetLine) → List ConverterStation
stations_in [] = []
stations_in (Some (Times dt duration) ∷ ls) = stations_in ls
stations_in (Some (Order o) ∷ ls) = stations_in ls
stations_in (Some (Station s known) ∷ ls) = s ∷ stations_in ls
stations_in (Some (Cable c) ∷ ls) = stations_in ls
stations_in (Some (Breaker b known) ∷ ls) = stations_in ls
stations_in (None ∷ ls) = stations_in ls

abbrev pub cables_in : List (Option SheetLine) → List DcCable
cables_in [] = []
cables_in (Some (Times dt duration) ∷ ls) = cables_in ls
cables_in (Some (Order o) ∷ ls) = cables_in ls
cables_in (Some (Station s known) ∷ ls) = cables_in ls
cables_in (Some (Cable c) ∷ ls) = c ∷ cables_in ls
cables_in (Some (Breaker b known) ∷ ls) = cables_in ls
cables_in (None ∷ ls) = cables_in ls

abbrev pub breakers_in : List (Option SheetLine) → List DcBreaker
breakers_in [] = []
breakers_in (Some (Times dt duration) ∷ ls) = breakers_in ls
breakers_in (Some (Order o) ∷ ls) = breakers_in ls
breakers_in (Some (Station s known) ∷ ls) = breakers_in ls
breakers_in (Some (Cable c) ∷ ls) = breakers_in ls
breakers_in (Some (Breaker b known) ∷ ls) = b ∷ breakers_in ls
breakers_in (None ∷ ls) = breakers_in ls

-- the grid without parts that the T line makes; without one, the grid given
abbrev pub new_from : DcSwitchingSimulator → List (Option SheetLine) → DcSwitchingSimulator
new_from g [] = g
new_from g (Some (Times dt duration) ∷ ls) = new_from (new_simulator dt duration) ls
new_from g (Some (Order o) ∷ ls) = new_from g ls
new_from g (Some (Station s known) ∷ ls) = new_from g ls
new_from g (Some (Cable c) ∷ ls) = new_from g ls
new_from g (Some (Breaker b known) ∷ ls) = new_from g ls
new_from g (None ∷ ls) = new_from g ls

abbrev pub no_order : SweepOrder
no_order = record { fault_resistance = nought; inception_time_ms = nought; low_tenth = 0; high_tenth = 0 }

-- the order of the O line; without one, the order given
abbrev pub order_from : SweepOrder → List (Option SheetLine) → SweepOrder
order_from p [] = p
order_from p (Some (Times dt duration) ∷ ls) = order_from p ls
order_from p (Some (Order o) ∷ ls) = order_from o ls
order_from p (Some (Station s known) ∷ ls) = order_from p ls
order_from p (Some (Cable c) ∷ ls) = order_from p ls
order_from p (Some (Breaker b known) ∷ ls) = order_from p ls
order_from p (None ∷ ls) = order_from p ls

abbrev pub order_in : List (Option SheetLine) → SweepOrder
order_in ls = order_from no_order ls

-- an array of m: the elements that it has room for, then z
abbrev pub laid : {A : Type 0} → ℕ → A → List A → List A
laid m z xs = take m (xs ++ replicate m z)

-- The grid that the lines make. It counts all of its parts, so that rule 3 refuses one of too many, and holds those that it has room for.
unfoldable pub grid_in : List (Option SheetLine) → DcSwitchingSimulator
grid_in ls =
    record {
      stations = laid 32 blank_station (stations_in ls);
      cables = laid 64 blank_cable (cables_in ls);
      breakers = laid 32 blank_breaker (breakers_in ls);
      n_stations = length (stations_in ls);
      n_cables = length (cables_in ls);
      n_breakers = length (breakers_in ls);
      dt_us = (new_from (new_simulator nought nought) ls).dt_us;
      duration_ms = (new_from (new_simulator nought nought) ls).duration_ms;
    }

-- ---- the rules 1 to 9, in their order, and the line of each

-- an S line that rule 6 refuses: of a topology beyond the four, of submodules without topology 2, or with a field outside its range
abbrev pub bad_station : Option SheetLine → Bool
bad_station (Some (Times dt duration)) = false
bad_station (Some (Order o)) = false
bad_station (Some (Station s known)) = not (known && station_ok s)
bad_station (Some (Cable c)) = false
bad_station (Some (Breaker b known)) = false
bad_station None = false

-- a C line that rule 7 refuses
abbrev pub bad_cable : Option SheetLine → Bool
bad_cable (Some (Times dt duration)) = false
bad_cable (Some (Order o)) = false
bad_cable (Some (Station s known)) = false
bad_cable (Some (Cable c)) = not (cable_ok c)
bad_cable (Some (Breaker b known)) = false
bad_cable None = false

-- a B line that rule 8 refuses: of a kind beyond the three, a mechanical one with a second number, or with a field outside its range
abbrev pub bad_breaker : Option SheetLine → Bool
bad_breaker (Some (Times dt duration)) = false
bad_breaker (Some (Order o)) = false
bad_breaker (Some (Station s known)) = false
bad_breaker (Some (Cable c)) = false
bad_breaker (Some (Breaker b known)) = not (known && breaker_ok b)
bad_breaker None = false

-- the number of the first bad line behind k of them, or 0
abbrev pub first_bad : (Option SheetLine → Bool) → ℕ → List (Option SheetLine) → ℕ
first_bad bad k [] = 0
first_bad bad k (l ∷ ls) = cond (bad l) (k + 1) (first_bad bad (k + 1) ls)

-- whether the rule of a number is broken: 6, 7 and 8 by a line, the others by the grid and the order
unfoldable pub sheet_broken : List (Option SheetLine) → ℕ → Bool
sheet_broken ls rule =
    cond (eqb rule 6) (not (eqb (first_bad bad_station 0 ls) 0))
    (cond (eqb rule 7) (not (eqb (first_bad bad_cable 0 ls) 0))
    (cond (eqb rule 8) (not (eqb (first_bad bad_breaker 0 ls) 0)) (broken (grid_in ls) (not (order_ok (order_in ls))) rule)))

-- "line in 12 (0 for 1, 2, 3, 5, 10)": the T line for 4, the O line for 9, the first bad line for 6, 7, 8
unfoldable pub shown_at : List (Option SheetLine) → (rule : ℕ) → ℕ
shown_at ls rule =
    cond (eqb rule 4) 1
    (cond (eqb rule 6) (first_bad bad_station 0 ls)
    (cond (eqb rule 7) (first_bad bad_cable 0 ls)
    (cond (eqb rule 8) (first_bad bad_breaker 0 ls)
    (cond (eqb rule 9) 2 0))))

-- ---- the answer

-- "12 and 13 come before all others, by first line"; then 3, 1, 2, 4, 5, 6, 7, 8, 9. 10 needs the flow, and is left to the sweep's start.
unfoldable pub refusal_of : List (Option SheetLine) → Refusal
refusal_of ls =
    cond (eqb (form_refusal 0 0 ls).number 0)
    (refused (first (sheet_broken ls) fault_order) (shown_at ls (first (sheet_broken ls) fault_order)))
    (form_refusal 0 0 ls)

pub record SheetAnswer : Type 0 where
  pub refusal : Refusal
  pub grid : DcSwitchingSimulator
  pub order : SweepOrder

-- beside a refusal an empty grid and an order of zeros
unfoldable pub answered : Refusal → DcSwitchingSimulator → SweepOrder → SheetAnswer
answered refusal g o =
    cond (eqb refusal.number 0)
    record { refusal = refusal; grid = g; order = o }
    record { refusal = refusal; grid = new_simulator nought nought; order = no_order }

unfoldable pub sheet_answer : List ℕ → SheetAnswer
sheet_answer text = answered (refusal_of (said text)) (grid_in (said text)) (order_in (said text))

-- ---- the answer as a result

-- 01's number of what a sheet is refused by
abbrev pub fault_number : SheetFault → ℕ
fault_number (Line f) = ordered.fault_number f
fault_number (Rule r) = rule_number r
fault_number (Other n) = n.number

-- and of what may be one, 0 for none
abbrev pub fault_in : Option SheetFault → ℕ
fault_in None = 0
fault_in (Some f) = fault_number f

-- what X prints of a result; nothing is printed of what is not refused
abbrev pub printed_of : {A : Type 0} → Result A SheetRefusal → Refusal
printed_of (Ok x) = none
printed_of (Err r) = refused (fault_number r.fault) r.line

-- the grid and the order of an answer
abbrev pub contents_of : SheetAnswer → SheetContents
contents_of a = record { grid = a.grid; order = a.order }
