-- A sheet taken a line at a time, as the code does it; `SheetClaims` says that this gives `sheet_answer`. Definitions only.
use Rattle.std.specs.Prelude.{ℕ, Bool, not, ◌&&◌, ◌||◌, cond, eqb, leb, Option, None, Some, is_some}
use Rattle.float64.specs.Constants.{nought}
use Rattle.part_checks.specs.PartChecks.{station_ok, cable_ok, breaker_ok}
use Rattle.grid.specs.Simulator.{new_simulator}
use Rattle.grid.specs.declared.parts.SweepOrder.{SweepOrder}
use Rattle.grid.specs.declared.simulator.DcSwitchingSimulator.{DcSwitchingSimulator}
use Rattle.sheet_lines.specs.declared.line.SheetLine.{SheetLine}
use Rattle.sheet_lines.specs.declared.line.SheetLine.TheVariants.{Times, Order, Station, Cable, Breaker}
use Rattle.line_order.specs.Ordered.{place_of, line_refusal}
use Rattle.line_order.specs.declared.order.LineFault.TheVariants.{WrongForm, WrongOrder}
use Rattle.whole_sheets.specs.Sheets.{most_lines, no_order}
use Rattle.whole_sheets.specs.declared.answers.SheetFault.{SheetFault}
use Rattle.whole_sheets.specs.declared.answers.SheetFault.TheVariants.{Line}
use Rattle.taken_lines.specs.declared.taken.Sheet.{Sheet}
use Rattle.sheet_parts.specs.Parts.{counted_on, station_taken, cable_taken, breaker_taken}

-- ---- a sheet with a line more

-- nothing is taken yet
unfoldable pub empty_sheet : Sheet
empty_sheet =
    record { grid = new_simulator nought nought; order = no_order; lines = 0; last = 0; bad_station = 0; bad_cable = 0; bad_breaker = 0; fault = None }

-- why a line is refused, of 01's number and by it; 0 is no refusal
abbrev pub fault_of : ℕ → Option SheetFault
fault_of number = cond (eqb number 0) None (Some (Line (cond (eqb number 12) WrongForm WrongOrder)))

-- a line is refused, or their number has come to its end
unfoldable pub stopped_at : Sheet → Bool
stopped_at s = is_some s.fault || leb most_lines s.lines

-- the number of the first bad line: the one known before, or this one if it is bad
unfoldable pub first_of : (known : ℕ) → (bad : Bool) → (line : ℕ) → ℕ
first_of known bad line = cond (eqb known 0) (cond bad line 0) known

abbrev pub holding : Sheet → DcSwitchingSimulator → SweepOrder → (bad_station bad_cable bad_breaker : ℕ) → Sheet
holding s g o x y z =
    record { grid = g; order = o; lines = s.lines; last = s.last; bad_station = x; bad_cable = y; bad_breaker = z; fault = s.fault }

unfoldable pub contents_with : Sheet → Option SheetLine → Sheet
contents_with s (Some (Times dt duration)) = holding s (new_simulator dt duration) s.order s.bad_station s.bad_cable s.bad_breaker
contents_with s (Some (Order o)) = holding s s.grid o s.bad_station s.bad_cable s.bad_breaker
contents_with s (Some (Station x known)) =
    holding s (station_taken s.grid x) s.order (first_of s.bad_station (not (known && station_ok x)) (counted_on s.lines)) s.bad_cable s.bad_breaker
contents_with s (Some (Cable x)) =
    holding s (cable_taken s.grid x) s.order s.bad_station (first_of s.bad_cable (not (cable_ok x)) (counted_on s.lines)) s.bad_breaker
contents_with s (Some (Breaker x known)) =
    holding s (breaker_taken s.grid x) s.order s.bad_station s.bad_cable (first_of s.bad_breaker (not (known && breaker_ok x)) (counted_on s.lines))
contents_with s None = s

abbrev pub moved_on : Sheet → (lines last : ℕ) → Sheet
moved_on s n place =
    record { grid = s.grid; order = s.order; lines = n; last = place; bad_station = s.bad_station; bad_cable = s.bad_cable; bad_breaker = s.bad_breaker; fault = s.fault }

abbrev pub refused_by : Sheet → ℕ → Sheet
refused_by s number =
    record { grid = s.grid; order = s.order; lines = s.lines; last = s.last; bad_station = s.bad_station; bad_cable = s.bad_cable; bad_breaker = s.bad_breaker; fault = fault_of number }

unfoldable pub with_line : Sheet → Option SheetLine → Sheet
with_line s l =
    cond (stopped_at s) s
    (cond (eqb (line_refusal s.lines s.last (place_of l)) 0)
    (moved_on (contents_with s l) (counted_on s.lines) (place_of l))
    (refused_by s (line_refusal s.lines s.last (place_of l))))
