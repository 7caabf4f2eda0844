-- What a line of a sheet says, as document 01.9 has it. Definitions only.
use Rattle.std.specs.Prelude.{ℕ, Bool, not, ◌&&◌, ◌||◌, cond, List, eqb, leb, get_or, Float, Option, Some, None}
use Rattle.std.specs.Float.Ieee.{eq}
use Rattle.float64.specs.Constants.{nought}
use Rattle.grid.specs.declared.parts.ConverterTopology.{ConverterTopology}
use Rattle.grid.specs.declared.parts.ConverterTopology.TheVariants.{Lcc, TwoLevelVsc, Mmc, Hybrid}
use Rattle.grid.specs.declared.parts.DcBreakerType.{DcBreakerType}
use Rattle.grid.specs.declared.parts.DcBreakerType.TheVariants.{Mechanical, SolidState, HybridBreaker}
use Rattle.grid.specs.declared.parts.ConverterStation.{ConverterStation}
use Rattle.grid.specs.declared.parts.DcCable.{DcCable}
use Rattle.grid.specs.declared.parts.DcBreaker.{DcBreaker}
use Rattle.grid.specs.declared.parts.SweepOrder.{SweepOrder}
use Rattle.sheet_lines.specs.declared.fields.Form.{Form}
use Rattle.sheet_lines.specs.declared.line.SheetLine.{SheetLine}
use Rattle.sheet_lines.specs.declared.line.SheetLine.TheVariants.{Times, Order, Station, Cable, Breaker}
use Rattle.sheet_lines.specs.Fields.{whole, real, formed}

-- ---- the letters, in ASCII

abbrev pub letter_t : ℕ
letter_t = 84

abbrev pub letter_o : ℕ
letter_o = 79

abbrev pub letter_s : ℕ
letter_s = 83

abbrev pub letter_c : ℕ
letter_c = 67

abbrev pub letter_b : ℕ
letter_b = 66

-- ---- T: dt, duration

abbrev pub times_form : Form
times_form = record { first_whole = 0; wholes = 0; first_real = 0; reals = 2 }

unfoldable pub times_line : List ℕ → Option SheetLine
times_line line = cond (formed line times_form) (Some (Times (real line 0) (real line 1))) None

-- ---- O: resistance, inception, low, high

abbrev pub order_form : Form
order_form = record { first_whole = 2; wholes = 2; first_real = 0; reals = 2 }

abbrev pub order_in : List ℕ → SweepOrder
order_in line = record { fault_resistance = real line 0; inception_time_ms = real line 1; low_tenth = whole line 2; high_tenth = whole line 3 }

unfoldable pub order_line : List ℕ → Option SheetLine
order_line line = cond (formed line order_form) (Some (Order (order_in line))) None

-- ---- S: topology (0 LCC, 1 two-level, 2 MMC, 3 hybrid), submodules, id, then the eight station fields in order

abbrev pub station_form : Form
station_form = record { first_whole = 0; wholes = 3; first_real = 3; reals = 8 }

-- a topology beyond is read as the first; it gives 6
unfoldable pub topology_of : ℕ → (submodules : ℕ) → ConverterTopology
topology_of t n = cond (eqb t 1) TwoLevelVsc (cond (eqb t 2) (Mmc n) (cond (eqb t 3) Hybrid Lcc))

abbrev pub station_in : List ℕ → ConverterStation
station_in line =
    record {
      id = whole line 2;
      topology = topology_of (whole line 0) (whole line 1);
      v_dc_rated_kv = real line 3;
      p_rated_mw = real line 4;
      x_transformer_pu = real line 5;
      scr = real line 6;
      control_angle_deg = real line 7;
      x_commutation_pu = real line 8;
      arm_inductance_mh = real line 9;
      sm_capacitance_uf = real line 10;
    }

-- "Topology .. beyond gives 6 .., submodules not 0 without topology 2 give 6"
abbrev pub station_known : List ℕ → Bool
station_known line = leb (whole line 0) 3 && (eqb (whole line 1) 0 || eqb (whole line 0) 2)

unfoldable pub station_line : List ℕ → Option SheetLine
station_line line = cond (formed line station_form) (Some (Station (station_in line) (station_known line))) None

-- ---- C: id, from, to, R, L, C, length

abbrev pub cable_form : Form
cable_form = record { first_whole = 0; wholes = 3; first_real = 3; reals = 4 }

abbrev pub cable_in : List ℕ → DcCable
cable_in line =
    record {
      id = whole line 0;
      from_station = whole line 1;
      to_station = whole line 2;
      r_per_km = real line 3;
      l_per_km = real line 4;
      c_per_km = real line 5;
      length_km = real line 6;
    }

unfoldable pub cable_line : List ℕ → Option SheetLine
cable_line line = cond (formed line cable_form) (Some (Cable (cable_in line))) None

-- ---- B: id, station, kind (0, 1, 2 as in 4), time, second number (0, loss, commutation), current, energy

abbrev pub breaker_form : Form
breaker_form = record { first_whole = 0; wholes = 3; first_real = 3; reals = 4 }

-- a kind beyond is read as the first; it gives 8
unfoldable pub breaker_type_of : ℕ → (time second : Float) → DcBreakerType
breaker_type_of kind time second = cond (eqb kind 1) (SolidState time second) (cond (eqb kind 2) (HybridBreaker time second) (Mechanical time))

abbrev pub breaker_in : List ℕ → DcBreaker
breaker_in line =
    record {
      id = whole line 0;
      station_id = whole line 1;
      breaker_type = breaker_type_of (whole line 2) (real line 3) (real line 4);
      max_breaking_current_ka = real line 5;
      energy_absorption_mj = real line 6;
    }

-- ".. kind beyond gives .. 8, .. a mechanical second number not 0 gives 8"
abbrev pub breaker_known : List ℕ → Bool
breaker_known line = leb (whole line 2) 2 && (eq (real line 4) nought || not (eqb (whole line 2) 0))

unfoldable pub breaker_line : List ℕ → Option SheetLine
breaker_line line = cond (formed line breaker_form) (Some (Breaker (breaker_in line) (breaker_known line))) None

-- ---- any line

-- Any other letter than the five gives 12
unfoldable pub line_of : List ℕ → Option SheetLine
line_of line =
    cond (eqb (get_or line 0 0) letter_t) (times_line line)
    (cond (eqb (get_or line 0 0) letter_o) (order_line line)
    (cond (eqb (get_or line 0 0) letter_s) (station_line line)
    (cond (eqb (get_or line 0 0) letter_c) (cable_line line)
    (cond (eqb (get_or line 0 0) letter_b) (breaker_line line) None))))
