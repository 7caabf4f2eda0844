-- A printed sheet reads back to its grid and order, where the numbers have at most six places. The proofs are in proofs/Claims.antt and proofs/Made.antt.
use Rattle.std.specs.Prelude.{◌-◌, ◌≤◌, ◌≡◌, List, [], ◌∷◌, length, drop, replicate, Float}
use Rattle.std.specs.Option.{unwrap_or}
use Rattle.grid.specs.Simulator.{stations_of, cables_of, breakers_of, kept_time_step, kept_duration, blank_station, blank_cable, blank_breaker, new_simulator, with_station, with_cable, with_breaker}
use Rattle.grid.specs.declared.parts.DcBreakerType.{DcBreakerType}
use Rattle.grid.specs.declared.parts.DcBreakerType.TheVariants.{Mechanical, SolidState, HybridBreaker}
use Rattle.grid.specs.declared.parts.ConverterStation.{ConverterStation}
use Rattle.grid.specs.declared.parts.DcCable.{DcCable}
use Rattle.grid.specs.declared.parts.DcBreaker.{DcBreaker}
use Rattle.grid.specs.declared.parts.SweepOrder.{SweepOrder}
use Rattle.grid.specs.declared.simulator.DcSwitchingSimulator.{DcSwitchingSimulator}
use Rattle.rules.specs.Studies.{sweep_refusal}
use Rattle.field_columns.specs.Fields.{value_of}
use Rattle.column_claims.specs.Claims.{Holds12}
use Rattle.field_columns.specs.declared.fields.Decimal.{Decimal}
use Rattle.whole_sheets.specs.Sheets.{none, sheet_answer}
use Rattle.printed_sheets.specs.Printing.{printed_sheet}

-- ---- what has at most six places

-- a decimal number that stands in a field: 6 places at most, and digits that 12 columns hold
pub record Fits (d : Decimal) : Type 0 where
  pub places_most : d.places ≤ 6
  pub digits_held : Holds12 d.digits d.places

-- each element of a list
abbrev pub All : {A : Type 0} → (A → Type 0) → List A → Type 0
All P [] = Unit {0}
All P (x ∷ xs) = P x × All P xs

module _ (spell : Float → Decimal) where
  -- x is the nearest double to its decimal number, and this stands in a field
  pub record Spelled (x : Float) : Type 0 where
    pub fits : Fits (spell x)
    pub value : value_of (spell x) ≡ x

  pub record SpelledStation (s : ConverterStation) : Type 0 where
    pub v_dc_rated_kv : Spelled s.v_dc_rated_kv
    pub p_rated_mw : Spelled s.p_rated_mw
    pub x_transformer_pu : Spelled s.x_transformer_pu
    pub scr : Spelled s.scr
    pub control_angle_deg : Spelled s.control_angle_deg
    pub x_commutation_pu : Spelled s.x_commutation_pu
    pub arm_inductance_mh : Spelled s.arm_inductance_mh
    pub sm_capacitance_uf : Spelled s.sm_capacitance_uf

  pub record SpelledCable (c : DcCable) : Type 0 where
    pub r_per_km : Spelled c.r_per_km
    pub l_per_km : Spelled c.l_per_km
    pub c_per_km : Spelled c.c_per_km
    pub length_km : Spelled c.length_km

  -- the times of a kind
  abbrev pub SpelledType : DcBreakerType → Type 0
  SpelledType (Mechanical opening) = Spelled opening
  SpelledType (SolidState turn_off loss) = Spelled turn_off × Spelled loss
  SpelledType (HybridBreaker opening commutation) = Spelled opening × Spelled commutation

  pub record SpelledBreaker (b : DcBreaker) : Type 0 where
    pub breaker_type : SpelledType b.breaker_type
    pub max_breaking_current_ka : Spelled b.max_breaking_current_ka
    pub energy_absorption_mj : Spelled b.energy_absorption_mj

  -- every number of the sheet. The ids and the other whole numbers fit wherever the grid and the order are accepted.
  pub record SixPlaces (g : DcSwitchingSimulator) (o : SweepOrder) : Type 0 where
    pub dt_us : Spelled g.dt_us
    pub duration_ms : Spelled g.duration_ms
    pub fault_resistance : Spelled o.fault_resistance
    pub inception_time_ms : Spelled o.inception_time_ms
    pub stations : All SpelledStation (stations_of g)
    pub cables : All SpelledCable (cables_of g)
    pub breakers : All SpelledBreaker (breakers_of g)

-- ---- grids

-- The arrays have the code's lengths, and the times are those that `new` keeps. A grid put together by hand with a time step of 0.05 is read back with 0.1.
pub record Made (g : DcSwitchingSimulator) : Type 0 where
  pub stations : length g.stations ≡ 32
  pub cables : length g.cables ≡ 64
  pub breakers : length g.breakers ≡ 32
  pub dt_us : kept_time_step g.dt_us ≡ g.dt_us
  pub duration_ms : kept_duration g.duration_ms ≡ g.duration_ms

-- the same times and the same parts. What stands past a count is none of a grid's, and is not printed.
pub record SameGrid (h g : DcSwitchingSimulator) : Type 0 where
  pub dt_us : h.dt_us ≡ g.dt_us
  pub duration_ms : h.duration_ms ≡ g.duration_ms
  pub n_stations : h.n_stations ≡ g.n_stations
  pub n_cables : h.n_cables ≡ g.n_cables
  pub n_breakers : h.n_breakers ≡ g.n_breakers
  pub stations : stations_of h ≡ stations_of g
  pub cables : cables_of h ≡ cables_of g
  pub breakers : breakers_of h ≡ breakers_of g

-- blanks stand past the counts
pub record BlankPast (g : DcSwitchingSimulator) : Type 0 where
  pub stations : drop g.n_stations g.stations ≡ replicate (32 - g.n_stations) blank_station
  pub cables : drop g.n_cables g.cables ≡ replicate (64 - g.n_cables) blank_cable
  pub breakers : drop g.n_breakers g.breakers ≡ replicate (32 - g.n_breakers) blank_breaker

-- both hold of what `new` makes, and stay so with a part more, or with none where it has no room
pub record MadeClaims : Type 0 where
  pub new : (dt duration : Float) → Made (new_simulator dt duration) × BlankPast (new_simulator dt duration)
  pub station : (g : DcSwitchingSimulator) (s : ConverterStation) → Made g → BlankPast g → Made (unwrap_or (with_station g s) g) × BlankPast (unwrap_or (with_station g s) g)
  pub cable : (g : DcSwitchingSimulator) (c : DcCable) → Made g → BlankPast g → Made (unwrap_or (with_cable g c) g) × BlankPast (unwrap_or (with_cable g c) g)
  pub breaker : (g : DcSwitchingSimulator) (b : DcBreaker) → Made g → BlankPast g → Made (unwrap_or (with_breaker g b) g) × BlankPast (unwrap_or (with_breaker g b) g)

-- ---- the claim

module _ (spell : Float → Decimal) (g : DcSwitchingSimulator) (o : SweepOrder) where
  pub record ReadsBack : Type 0 where
    pub refusal : (sheet_answer (printed_sheet spell g o)).refusal ≡ none
    pub order : (sheet_answer (printed_sheet spell g o)).order ≡ o
    pub grid : SameGrid (sheet_answer (printed_sheet spell g o)).grid g
    pub whole_grid : BlankPast g → (sheet_answer (printed_sheet spell g o)).grid ≡ g

pub record RoundTripClaims : Type 0 where
  -- a sheet printed from an accepted grid and order whose fields have at most six places reads back to that grid and order
  pub round_trip : (spell : Float → Decimal) (g : DcSwitchingSimulator) (o : SweepOrder) → SixPlaces spell g o → Made g → sweep_refusal g o ≡ 0 → ReadsBack spell g o
