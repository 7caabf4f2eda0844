-- A sheet printed from a grid and an order, as document 01.9 has its lines. No function prints one. Definitions only.
use Rattle.std.specs.Prelude.{ℕ, List, [], ◌∷◌, ◌++◌, map, Float}
use Rattle.grid.specs.Simulator.{stations_of, cables_of, breakers_of}
use Rattle.grid.specs.declared.parts.ConverterTopology.{ConverterTopology}
use Rattle.grid.specs.declared.parts.ConverterTopology.TheVariants.{Lcc, TwoLevelVsc, Mmc, Hybrid}
use Rattle.grid.specs.declared.parts.DcBreakerType.{DcBreakerType}
use Rattle.grid.specs.declared.parts.DcBreakerType.TheVariants.{Mechanical, SolidState, HybridBreaker}
use Rattle.grid.specs.declared.parts.ConverterStation.{ConverterStation}
use Rattle.grid.specs.declared.parts.DcCable.{DcCable}
use Rattle.grid.specs.declared.parts.DcBreaker.{DcBreaker}
use Rattle.grid.specs.declared.parts.SweepOrder.{SweepOrder}
use Rattle.grid.specs.declared.simulator.DcSwitchingSimulator.{DcSwitchingSimulator}
use Rattle.printed_numbers.specs.Printed.{printed_decimal}
use Rattle.field_columns.specs.declared.fields.Decimal.{Decimal}
use Rattle.sheet_lines.specs.Lines.{letter_t, letter_o, letter_s, letter_c, letter_b}

-- ---- a line

-- fields of 12 columns, decimal numbers right-justified after spaces
abbrev pub fields : List Decimal → List ℕ
fields [] = []
fields (d ∷ ds) = printed_decimal d.digits d.places ++ fields ds

-- one letter and fields, ended by a line feed
unfoldable pub printed_line : (letter : ℕ) → List Decimal → List ℕ
printed_line letter ds = (letter ∷ fields ds) ++ (10 ∷ [])

-- a whole number
abbrev pub whole : ℕ → Decimal
whole n = record { digits = n; places = 0 }

-- ---- topologies and kinds

-- 0 LCC, 1 two-level, 2 MMC, 3 hybrid
abbrev pub topology_number : ConverterTopology → ℕ
topology_number Lcc = 0
topology_number TwoLevelVsc = 1
topology_number (Mmc n) = 2
topology_number Hybrid = 3

-- only an MMC has submodules
abbrev pub submodules_in : ConverterTopology → ℕ
submodules_in Lcc = 0
submodules_in TwoLevelVsc = 0
submodules_in (Mmc n) = n
submodules_in Hybrid = 0

-- 0 mechanical, 1 solid-state, 2 hybrid
abbrev pub kind_number : DcBreakerType → ℕ
kind_number (Mechanical opening) = 0
kind_number (SolidState turn_off loss) = 1
kind_number (HybridBreaker opening commutation) = 2

-- ---- the lines, where `spell` gives each double its decimal number

module _ (spell : Float → Decimal) where
  -- opening or turn-off
  abbrev pub breaker_time : DcBreakerType → Decimal
  breaker_time (Mechanical opening) = spell opening
  breaker_time (SolidState turn_off loss) = spell turn_off
  breaker_time (HybridBreaker opening commutation) = spell opening

  -- 0, loss, commutation
  abbrev pub second_number : DcBreakerType → Decimal
  second_number (Mechanical opening) = whole 0
  second_number (SolidState turn_off loss) = spell loss
  second_number (HybridBreaker opening commutation) = spell commutation

  -- T: dt, duration
  abbrev pub times_fields : (dt duration : Float) → List Decimal
  times_fields dt duration = spell dt ∷ spell duration ∷ []

  -- O: resistance, inception, low, high
  abbrev pub order_fields : SweepOrder → List Decimal
  order_fields o = spell o.fault_resistance ∷ spell o.inception_time_ms ∷ whole o.low_tenth ∷ whole o.high_tenth ∷ []

  -- S: topology, submodules, id, then the eight station fields in order
  abbrev pub station_fields : ConverterStation → List Decimal
  station_fields s =
      whole (topology_number s.topology) ∷
      whole (submodules_in s.topology) ∷
      whole s.id ∷
      spell s.v_dc_rated_kv ∷
      spell s.p_rated_mw ∷
      spell s.x_transformer_pu ∷
      spell s.scr ∷
      spell s.control_angle_deg ∷
      spell s.x_commutation_pu ∷
      spell s.arm_inductance_mh ∷
      spell s.sm_capacitance_uf ∷
      []

  -- C: id, from, to, R, L, C, length
  abbrev pub cable_fields : DcCable → List Decimal
  cable_fields c =
      whole c.id ∷
      whole c.from_station ∷
      whole c.to_station ∷
      spell c.r_per_km ∷
      spell c.l_per_km ∷
      spell c.c_per_km ∷
      spell c.length_km ∷
      []

  -- B: id, station, kind, time, second number, current, energy
  abbrev pub breaker_fields : DcBreaker → List Decimal
  breaker_fields b =
      whole b.id ∷
      whole b.station_id ∷
      whole (kind_number b.breaker_type) ∷
      breaker_time b.breaker_type ∷
      second_number b.breaker_type ∷
      spell b.max_breaking_current_ka ∷
      spell b.energy_absorption_mj ∷
      []

  abbrev pub station_text : ConverterStation → List ℕ
  station_text s = printed_line letter_s (station_fields s)

  abbrev pub cable_text : DcCable → List ℕ
  cable_text c = printed_line letter_c (cable_fields c)

  abbrev pub breaker_text : DcBreaker → List ℕ
  breaker_text b = printed_line letter_b (breaker_fields b)

-- ---- the sheet

-- one line behind the other
abbrev pub joined : List (List ℕ) → List ℕ
joined [] = []
joined (l ∷ ls) = l ++ joined ls

-- One T, one O, then S, C, B: a line for each part that the counts speak of
unfoldable pub printed_sheet : (Float → Decimal) → DcSwitchingSimulator → SweepOrder → List ℕ
printed_sheet spell g o =
    printed_line letter_t (times_fields spell g.dt_us g.duration_ms) ++
    (printed_line letter_o (order_fields spell o) ++
    (joined (map (station_text spell) (stations_of g)) ++ (joined (map (cable_text spell) (cables_of g)) ++ joined (map (breaker_text spell) (breakers_of g)))))
