-- Each printed line says its part. Assumes nothing.
use Rattle.std.proofs.Common.{Option, Some, None}
use Prim.Native.Nat.{ℕ, ◌<◌}
use mathlib.Core.Path.{◌≡◌, refl, ◌∙◌, ap}
use mathlib.Core.Bool.{true, false, not, ◌&&◌, ◌||◌, cond}
use mathlib.Core.List.{List, ◌∷◌, ◌++◌}
use native.Mathlib.Omega.{arith}
use lib.Dec.{eqb, leb}
use lib.ListN.{get_or}
use lib.Ieee.{Float, eq, round, of_bits}
use Rattle.lists.proofs.Scanning.{or_second}
use Rattle.float64.specs.Constants.{nought}
use Rattle.grid.specs.declared.parts.ConverterTopology.{ConverterTopology}
use Rattle.grid.specs.declared.parts.ConverterTopology.TheVariants.{Lcc, TwoLevelVsc, Mmc, Hybrid}
use Rattle.grid.specs.declared.parts.DcBreakerType.{DcBreakerType}
use Rattle.grid.specs.declared.parts.DcBreakerType.TheVariants.{Mechanical, SolidState, HybridBreaker}
use Rattle.grid.specs.declared.parts.ConverterStation.{ConverterStation}
use Rattle.grid.specs.declared.parts.DcCable.{DcCable}
use Rattle.grid.specs.declared.parts.DcBreaker.{DcBreaker}
use Rattle.grid.specs.declared.parts.SweepOrder.{SweepOrder}
use Rattle.part_checks.specs.PartChecks.{station_ok, cable_ok, breaker_ok, order_ok}
use Rattle.field_columns.specs.Fields.{value_of}
use Rattle.field_columns.specs.declared.fields.Decimal.{Decimal}
use Rattle.sheet_lines.specs.Fields as read
use Rattle.sheet_lines.specs.Lines.{letter_t, letter_o, letter_s, letter_c, letter_b, times_form, order_form, station_form, cable_form, breaker_form, times_line, order_line, station_line, cable_line, breaker_line, order_in, topology_of, station_in, station_known, cable_in, breaker_type_of, breaker_in, breaker_known, line_of}
use Rattle.sheet_lines.specs.declared.line.SheetLine.{SheetLine}
use Rattle.sheet_lines.specs.declared.line.SheetLine.TheVariants.{Times, Order, Station, Cable, Breaker}
use Rattle.whole_sheets.specs.Sheets.{lines_of}
use Rattle.printed_sheets.specs.Printing.{whole, printed_line, topology_number, submodules_in, kind_number, breaker_time, second_number, times_fields, order_fields, station_fields, cable_fields, breaker_fields, station_text, cable_text, breaker_text}
use Rattle.printed_sheets.specs.Claims.{Fits, All, Spelled, SpelledStation, SpelledCable, SpelledType, SpelledBreaker}
use Rattle.printed_sheets.proofs.Lines.{line_ends, real_read, whole-read, line-formed, letter_is}
use Rattle.printed_sheets.proofs.Whole.{whole_fits, topology_fits, kind_fits, station_wholes, cable_wholes, breaker_wholes, order_wholes}

-- a text that is one line, whatever stands behind it, and what it says
pub record Says (text : List ℕ) (line : Option SheetLine) : Type 0 where
  pub ends : (rest : List ℕ) → lines_of (text ++ rest) ≡ text ∷ lines_of rest
  pub says : line_of text ≡ line

-- ---- T

module _ (spell : Float → Decimal) (dt duration : Float) (p : Spelled spell dt) (q : Spelled spell duration) where
  abbrev times_ds : List Decimal
  times_ds = times_fields spell dt duration

  abbrev times_text : List ℕ
  times_text = printed_line letter_t times_ds

  times_fit : All Fits times_ds
  times_fit = (p.fits, (q.fits, tt))

  times_line_lem : times_line times_text ≡ (Some (Times dt duration))
  unfolding times_line
  times_line_lem =
      ap (λ t. cond t (Some (Times (read.real times_text 0) (read.real times_text 1))) None) (line-formed letter_t times_ds times_fit times_form refl refl refl)
      ∙ λ i. (Some (Times ((real_read letter_t times_ds times_fit 0 (omega arith) ∙ p.value) i) ((real_read letter_t times_ds times_fit 1 (omega arith) ∙ q.value) i)))

  times_of : line_of times_text ≡ (Some (Times dt duration))
  unfolding line_of
  times_of = rw (letter_is letter_t times_ds) times_line_lem

  pub times_said : Says (printed_line letter_t (times_fields spell dt duration)) (Some (Times dt duration))
  times_said = record { ends = λ rest. line_ends letter_t times_ds rest refl times_fit; says = times_of }

-- ---- O

module _ (spell : Float → Decimal) (o : SweepOrder) (p : Spelled spell o.fault_resistance) (q : Spelled spell o.inception_time_ms) (h : order_ok o ≡ true) where
  abbrev order_ds : List Decimal
  order_ds = order_fields spell o

  abbrev order_text : List ℕ
  order_text = printed_line letter_o order_ds

  order_fit : All Fits order_ds
  order_fit = (p.fits, (q.fits, ((order_wholes o h).0, ((order_wholes o h).1, tt))))

  order-read : order_in order_text ≡ o
  order-read = λ i.
      record {
        fault_resistance = (real_read letter_o order_ds order_fit 0 (omega arith) ∙ p.value) i;
        inception_time_ms = (real_read letter_o order_ds order_fit 1 (omega arith) ∙ q.value) i;
        low_tenth = whole-read letter_o order_ds order_fit 2 (omega arith) refl i;
        high_tenth = whole-read letter_o order_ds order_fit 3 (omega arith) refl i;
      }

  order-line : order_line order_text ≡ (Some (Order o))
  unfolding order_line
  order-line = ap (λ t. cond t (Some (Order (order_in order_text))) None) (line-formed letter_o order_ds order_fit order_form refl refl refl) ∙ ap (λ (x : SweepOrder). Some (Order x)) order-read

  order_of : line_of order_text ≡ (Some (Order o))
  unfolding line_of
  order_of = rw (letter_is letter_o order_ds) order-line

  pub order-said : Says (printed_line letter_o (order_fields spell o)) (Some (Order o))
  order-said = record { ends = λ rest. line_ends letter_o order_ds rest refl order_fit; says = order_of }

-- ---- S

topology_back : (t : ConverterTopology) → topology_of (topology_number t) (submodules_in t) ≡ t
unfolding topology_of
topology_back Lcc = refl
topology_back TwoLevelVsc = refl
topology_back (Mmc n) = refl
topology_back Hybrid = refl

topology_known : (t : ConverterTopology) → (leb (topology_number t) 3 && (eqb (submodules_in t) 0 || eqb (topology_number t) 2)) ≡ true
topology_known Lcc = refl
topology_known TwoLevelVsc = refl
topology_known (Mmc n) = or_second (eqb n 0) true refl
topology_known Hybrid = refl

module _ (spell : Float → Decimal) (s : ConverterStation) (p : SpelledStation spell s) (h : station_ok s ≡ true) where
  abbrev station_ds : List Decimal
  station_ds = station_fields spell s

  abbrev station_text_lem : List ℕ
  station_text_lem = printed_line letter_s station_ds

  station_fit : All Fits station_ds
  station_fit =
      (topology_fits s.topology, ((station_wholes s h).0, ((station_wholes s h).1, (p.v_dc_rated_kv.fits, (p.p_rated_mw.fits, (p.x_transformer_pu.fits, (p.scr.fits, (p.control_angle_deg.fits, (p.x_commutation_pu.fits, (p.arm_inductance_mh.fits, (p.sm_capacitance_uf.fits, tt)))))))))))

  station_whole : (k : ℕ) → k < 11 → (get_or station_ds k (whole 0)).places ≡ 0 → read.whole station_text_lem k ≡ (get_or station_ds k (whole 0)).digits
  station_whole k l e = whole-read letter_s station_ds station_fit k l e

  station_real : (k : ℕ) → k < 11 → read.real station_text_lem k ≡ value_of (get_or station_ds k (whole 0))
  station_real k l = real_read letter_s station_ds station_fit k l

  station_read : station_in station_text_lem ≡ s
  station_read = λ i.
      record {
        id = station_whole 2 (omega arith) refl i;
        topology = ((λ j. topology_of (station_whole 0 (omega arith) refl j) (station_whole 1 (omega arith) refl j)) ∙ topology_back s.topology) i;
        v_dc_rated_kv = (station_real 3 (omega arith) ∙ p.v_dc_rated_kv.value) i;
        p_rated_mw = (station_real 4 (omega arith) ∙ p.p_rated_mw.value) i;
        x_transformer_pu = (station_real 5 (omega arith) ∙ p.x_transformer_pu.value) i;
        scr = (station_real 6 (omega arith) ∙ p.scr.value) i;
        control_angle_deg = (station_real 7 (omega arith) ∙ p.control_angle_deg.value) i;
        x_commutation_pu = (station_real 8 (omega arith) ∙ p.x_commutation_pu.value) i;
        arm_inductance_mh = (station_real 9 (omega arith) ∙ p.arm_inductance_mh.value) i;
        sm_capacitance_uf = (station_real 10 (omega arith) ∙ p.sm_capacitance_uf.value) i;
      }

  station_known_lem : station_known station_text_lem ≡ true
  station_known_lem =
      (λ i. leb (station_whole 0 (omega arith) refl i) 3 && (eqb (station_whole 1 (omega arith) refl i) 0 || eqb (station_whole 0 (omega arith) refl i) 2))
      ∙ topology_known s.topology

  station_line_lem : station_line station_text_lem ≡ (Some (Station s true))
  unfolding station_line
  station_line_lem =
      ap (λ t. cond t (Some (Station (station_in station_text_lem) (station_known station_text_lem))) None) (line-formed letter_s station_ds station_fit station_form refl refl refl)
      ∙ λ i. (Some (Station (station_read i) (station_known_lem i)))

  station_of : line_of station_text_lem ≡ (Some (Station s true))
  unfolding line_of
  station_of = rw (letter_is letter_s station_ds) station_line_lem

  pub station_said_lem : Says (station_text spell s) (Some (Station s true))
  station_said_lem = record { ends = λ rest. line_ends letter_s station_ds rest refl station_fit; says = station_of }

-- ---- C

module _ (spell : Float → Decimal) (c : DcCable) (p : SpelledCable spell c) (h : cable_ok c ≡ true) where
  abbrev cable_ds : List Decimal
  cable_ds = cable_fields spell c

  abbrev cable_text_lem : List ℕ
  cable_text_lem = printed_line letter_c cable_ds

  cable_fit : All Fits cable_ds
  cable_fit = ((cable_wholes c h).0, ((cable_wholes c h).1, ((cable_wholes c h).2, (p.r_per_km.fits, (p.l_per_km.fits, (p.c_per_km.fits, (p.length_km.fits, tt)))))))

  cable_real : (k : ℕ) → k < 7 → read.real cable_text_lem k ≡ value_of (get_or cable_ds k (whole 0))
  cable_real k l = real_read letter_c cable_ds cable_fit k l

  cable_read : cable_in cable_text_lem ≡ c
  cable_read = λ i.
      record {
        id = whole-read letter_c cable_ds cable_fit 0 (omega arith) refl i;
        from_station = whole-read letter_c cable_ds cable_fit 1 (omega arith) refl i;
        to_station = whole-read letter_c cable_ds cable_fit 2 (omega arith) refl i;
        r_per_km = (cable_real 3 (omega arith) ∙ p.r_per_km.value) i;
        l_per_km = (cable_real 4 (omega arith) ∙ p.l_per_km.value) i;
        c_per_km = (cable_real 5 (omega arith) ∙ p.c_per_km.value) i;
        length_km = (cable_real 6 (omega arith) ∙ p.length_km.value) i;
      }

  cable_line_lem : cable_line cable_text_lem ≡ (Some (Cable c))
  unfolding cable_line
  cable_line_lem = ap (λ t. cond t (Some (Cable (cable_in cable_text_lem))) None) (line-formed letter_c cable_ds cable_fit cable_form refl refl refl) ∙ ap (λ (x : DcCable). Some (Cable x)) cable_read

  cable_of_lem : line_of cable_text_lem ≡ (Some (Cable c))
  unfolding line_of
  cable_of_lem = rw (letter_is letter_c cable_ds) cable_line_lem

  pub cable_said : Says (cable_text spell c) (Some (Cable c))
  cable_said = record { ends = λ rest. line_ends letter_c cable_ds rest refl cable_fit; says = cable_of_lem }

-- ---- B

-- a printed 0 is read as 0
nought_back : eq (value_of (whole 0)) nought ≡ true
unfolding eq round of_bits
nought_back = refl

type_fits : (spell : Float → Decimal) (t : DcBreakerType) → SpelledType spell t → Fits (breaker_time spell t) × Fits (second_number spell t)
type_fits spell (Mechanical opening) p = (p.fits, whole_fits 0 (omega arith))
type_fits spell (SolidState turn_off loss) p = (p.0.fits, p.1.fits)
type_fits spell (HybridBreaker opening commutation) p = (p.0.fits, p.1.fits)

type_back : (spell : Float → Decimal) (t : DcBreakerType) → SpelledType spell t → breaker_type_of (kind_number t) (value_of (breaker_time spell t)) (value_of (second_number spell t)) ≡ t
unfolding breaker_type_of
type_back spell (Mechanical opening) p = ap Mechanical p.value
type_back spell (SolidState turn_off loss) p = λ i. SolidState (p.0.value i) (p.1.value i)
type_back spell (HybridBreaker opening commutation) p = λ i. HybridBreaker (p.0.value i) (p.1.value i)

type_known : (spell : Float → Decimal) (t : DcBreakerType) → (leb (kind_number t) 2 && (eq (value_of (second_number spell t)) nought || not (eqb (kind_number t) 0))) ≡ true
type_known spell (Mechanical opening) = ap (λ x. x || false) nought_back
type_known spell (SolidState turn_off loss) = or_second (eq (value_of (spell loss)) nought) true refl
type_known spell (HybridBreaker opening commutation) = or_second (eq (value_of (spell commutation)) nought) true refl

module _ (spell : Float → Decimal) (b : DcBreaker) (p : SpelledBreaker spell b) (h : breaker_ok b ≡ true) where
  abbrev breaker_ds : List Decimal
  breaker_ds = breaker_fields spell b

  abbrev breaker_text_lem : List ℕ
  breaker_text_lem = printed_line letter_b breaker_ds

  breaker_fit : All Fits breaker_ds
  breaker_fit =
      let w = breaker_wholes b h in
      let t = type_fits spell b.breaker_type p.breaker_type in
      (w.0, (w.1, (kind_fits b.breaker_type, (t.0, (t.1, (p.max_breaking_current_ka.fits, (p.energy_absorption_mj.fits, tt)))))))

  breaker_whole : (k : ℕ) → k < 7 → (get_or breaker_ds k (whole 0)).places ≡ 0 → read.whole breaker_text_lem k ≡ (get_or breaker_ds k (whole 0)).digits
  breaker_whole k l e = whole-read letter_b breaker_ds breaker_fit k l e

  breaker_real : (k : ℕ) → k < 7 → read.real breaker_text_lem k ≡ value_of (get_or breaker_ds k (whole 0))
  breaker_real k l = real_read letter_b breaker_ds breaker_fit k l

  breaker_read : breaker_in breaker_text_lem ≡ b
  breaker_read = λ i.
      record {
        id = breaker_whole 0 (omega arith) refl i;
        station_id = breaker_whole 1 (omega arith) refl i;
        breaker_type = ((λ j. breaker_type_of (breaker_whole 2 (omega arith) refl j) (breaker_real 3 (omega arith) j) (breaker_real 4 (omega arith) j)) ∙ type_back spell b.breaker_type p.breaker_type) i;
        max_breaking_current_ka = (breaker_real 5 (omega arith) ∙ p.max_breaking_current_ka.value) i;
        energy_absorption_mj = (breaker_real 6 (omega arith) ∙ p.energy_absorption_mj.value) i;
      }

  breaker_known_lem : breaker_known breaker_text_lem ≡ true
  breaker_known_lem =
      (λ i. leb (breaker_whole 2 (omega arith) refl i) 2 && (eq (breaker_real 4 (omega arith) i) nought || not (eqb (breaker_whole 2 (omega arith) refl i) 0)))
      ∙ type_known spell b.breaker_type

  breaker_line_lem : breaker_line breaker_text_lem ≡ (Some (Breaker b true))
  unfolding breaker_line
  breaker_line_lem =
      ap (λ t. cond t (Some (Breaker (breaker_in breaker_text_lem) (breaker_known breaker_text_lem))) None) (line-formed letter_b breaker_ds breaker_fit breaker_form refl refl refl)
      ∙ λ i. (Some (Breaker (breaker_read i) (breaker_known_lem i)))

  breaker_of : line_of breaker_text_lem ≡ (Some (Breaker b true))
  unfolding line_of
  breaker_of = rw (letter_is letter_b breaker_ds) breaker_line_lem

  pub breaker_said_lem : Says (breaker_text spell b) (Some (Breaker b true))
  breaker_said_lem = record { ends = λ rest. line_ends letter_b breaker_ds rest refl breaker_fit; says = breaker_of }
