-- The accepted values of document 01: "one table of lows and highs, ends included; NaN is outside every range". Definitions only.
use Rattle.std.specs.Prelude.{ℕ, ◌^◌, Bool, ◌&&◌, List, [], ◌∷◌, leb, ltb, pos, get_or, Float}
use Rattle.std.specs.Float.{binary64}
use Rattle.std.specs.Float.Ieee.{of_int, le}
use Rattle.ranges.specs.declared.Range.{Range}

-- both ends are accepted
pub record Ends : Type 0 where
  pub low : ℕ
  pub high : ℕ

abbrev pub ends : ℕ → ℕ → Ends
ends l h = record { low = l; high = h }

-- a double lies between two doubles. A NaN lies between none: no comparison with it is true.
abbrev pub between : Range → Float → Bool
between r x = le r.0 x && le x r.1

-- a whole number does, as the double that it is. From 2 ^ 53 up not every one is a double, and no range goes so far.
unfoldable pub whole_between : Range → ℕ → Bool
whole_between r n = ltb n (2 ^ 53) && between r (of_int binary64 (pos n))

-- the ends as the code's table has them
abbrev pub as_doubles : Ends → Range
as_doubles e = (of_int binary64 (pos e.low), of_int binary64 (pos e.high))

-- a double lies in the range
unfoldable pub real_in : Ends → Float → Bool
real_in e x = between (as_doubles e) x

-- a whole number lies in the range
unfoldable pub whole_in : Ends → ℕ → Bool
whole_in e n = leb e.low n && leb n e.high

-- station: rated kV 1 to 2,000; rated MW 0 to 20,000; transformer reactance, SCR 0 to 1,000; control angle 0 to 180; commutation reactance 0 to 10; arm inductance 0 to 1,000; submodule capacitance 0 to 100,000
abbrev pub rated_kv : Ends
rated_kv = ends 1 2000

abbrev pub rated_mw : Ends
rated_mw = ends 0 20000

abbrev pub transformer_reactance : Ends
transformer_reactance = ends 0 1000

abbrev pub short_circuit_ratio : Ends
short_circuit_ratio = ends 0 1000

abbrev pub control_angle : Ends
control_angle = ends 0 180

abbrev pub commutation_reactance : Ends
commutation_reactance = ends 0 10

abbrev pub arm_inductance : Ends
arm_inductance = ends 0 1000

abbrev pub submodule_capacitance : Ends
submodule_capacitance = ends 0 100000

-- cable: per km R, L, C 0 to 1,000; length 0 to 10,000
abbrev pub resistance_per_km : Ends
resistance_per_km = ends 0 1000

abbrev pub inductance_per_km : Ends
inductance_per_km = ends 0 1000

abbrev pub capacitance_per_km : Ends
capacitance_per_km = ends 0 1000

abbrev pub cable_length : Ends
cable_length = ends 0 10000

-- breaker: each time 0 to 100,000; on-state loss 0 to 100; breaking current 0 to 1,000; energy 0 to 100,000
abbrev pub opening_time : Ends
opening_time = ends 0 100000

abbrev pub turn_off_time : Ends
turn_off_time = ends 0 100000

abbrev pub commutation_time : Ends
commutation_time = ends 0 100000

abbrev pub on_state_loss : Ends
on_state_loss = ends 0 100

abbrev pub breaking_current : Ends
breaking_current = ends 0 1000

abbrev pub absorbed_energy : Ends
absorbed_energy = ends 0 100000

-- fault: resistance 0 to 1,000,000; fraction 0 to 1; inception 0 to 100,000 ms. Sweep order: the same resistance and inception, tenths 0 ≤ low ≤ high ≤ 10.
abbrev pub fault_resistance : Ends
fault_resistance = ends 0 1000000

abbrev pub fault_fraction : Ends
fault_fraction = ends 0 1

abbrev pub inception_time : Ends
inception_time = ends 0 100000

abbrev pub low_tenth : Ends
low_tenth = ends 0 10

abbrev pub high_tenth : Ends
high_tenth = ends 0 10

-- time step 0 to 1,000,000 µs; duration 0 to 100,000 ms
abbrev pub time_step : Ends
time_step = ends 0 1000000

abbrev pub duration : Ends
duration = ends 0 100000

-- ids, station and cable numbers, submodules: 0 to 65,535
abbrev pub station_id : Ends
station_id = ends 0 65535

abbrev pub cable_id : Ends
cable_id = ends 0 65535

abbrev pub breaker_id : Ends
breaker_id = ends 0 65535

abbrev pub breaker_station : Ends
breaker_station = ends 0 65535

abbrev pub from_station : Ends
from_station = ends 0 65535

abbrev pub to_station : Ends
to_station = ends 0 65535

abbrev pub faulted_cable : Ends
faulted_cable = ends 0 65535

abbrev pub submodules : Ends
submodules = ends 0 65535

-- the table: a row for each field of the list, in its order
abbrev pub table : List Ends
table =
    rated_kv ∷ rated_mw ∷ transformer_reactance ∷ short_circuit_ratio ∷ control_angle ∷ commutation_reactance ∷ arm_inductance ∷ submodule_capacitance ∷
    resistance_per_km ∷ inductance_per_km ∷ capacitance_per_km ∷ cable_length ∷
    opening_time ∷ turn_off_time ∷ commutation_time ∷ on_state_loss ∷ breaking_current ∷ absorbed_energy ∷
    fault_resistance ∷ fault_fraction ∷ inception_time ∷ low_tenth ∷ high_tenth ∷
    time_step ∷ duration ∷
    station_id ∷ cable_id ∷ breaker_id ∷ breaker_station ∷ from_station ∷ to_station ∷ faulted_cable ∷ submodules ∷
    []

-- the row at a position; past the last there is nothing to accept
abbrev pub row_of : ℕ → Ends
row_of k = get_or table k (ends 1 0)
