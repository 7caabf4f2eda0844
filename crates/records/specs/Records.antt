-- "a record is time, fault current, voltages, station currents, cable currents, breakers (1 closed, 0 open)". Definitions only.
use Rattle.std.specs.Prelude.{ℕ, ◌+◌, ◌≤◌, Bool, true, false, not, ◌&&◌, List, ◌∷◌, ◌++◌, ltb, length, get_or, Float}
use Rattle.lists.specs.Tables.{tab}
use Rattle.float64.specs.Constants.{nought, one}
use Rattle.float64.specs.Arithmetic.{of}
use Rattle.grid.specs.Simulator.{stations_of, cables_of, breakers_of}
use Rattle.grid.specs.declared.simulator.DcSwitchingSimulator.{DcSwitchingSimulator}
use Rattle.state_derivatives.specs.declared.state.DcTransientState.{DcTransientState}
use Rattle.records.specs.declared.record.RecordCounts.{RecordCounts}

abbrev pub closed_number : Bool → Float
closed_number true = one
closed_number false = nought

-- of n stations, m cables and b breakers
unfoldable pub record_with : (n m b : ℕ) → DcTransientState → List Float
record_with n m b s =
    s.time_ms ∷
    s.fault_current_ka ∷
    tab n (of s.y) ++
    tab n (of s.station_currents_ka) ++
    tab m (λ k. of s.y (n + k)) ++
    tab b (λ i. closed_number (get_or s.breaker_states i false))

abbrev pub record_of : DcSwitchingSimulator → DcTransientState → List Float
record_of g s = record_with (length (stations_of g)) (length (cables_of g)) (length (breakers_of g)) s

-- ---- as the code writes it: the counts in a struct

abbrev pub numbers_in : RecordCounts → ℕ
numbers_in c = 2 + c.stations + c.stations + c.cables + c.breakers

abbrev pub counts_of : DcSwitchingSimulator → RecordCounts
counts_of g = record { stations = length (stations_of g); cables = length (cables_of g); breakers = length (breakers_of g) }

-- no more than there is room for
pub record Counted (c : RecordCounts) : Type 0 where
  pub stations : c.stations ≤ 32
  pub cables : c.cables ≤ 64
  pub breakers : c.breakers ≤ 32

abbrev pub record_by : RecordCounts → DcTransientState → List Float
record_by c s = record_with c.stations c.cables c.breakers s

-- they are no more, and a whole record fits behind a position of the memory
abbrev pub fits_in : RecordCounts → (at len : ℕ) → Bool
fits_in c at len = not (ltb 32 c.stations) && not (ltb 64 c.cables) && not (ltb 32 c.breakers) && not (ltb len (at + numbers_in c))

-- a record is written
abbrev pub puts : Bool → RecordCounts → (at len : ℕ) → Bool
puts recorded c at len = recorded && fits_in c at len
