-- The time of a run: its steps, and which of them are recorded. Definitions only.
use Rattle.std.specs.Prelude.{ℕ, zero, suc, ◌+◌, ◌-◌, ◌*◌, ◌/◌, ◌%◌, ◌^◌, max, min, Bool, true, false, ◌||◌, cond, eqb, length, pos, Float}
use Rattle.std.specs.Float.{nan, inf, fin, binary64}
use Rattle.std.specs.Float.Ieee.{up, down, of_int, mul, div}
use Rattle.float64.specs.Constants.{kilo}
use Rattle.float64.specs.Choice.{max_of}
use Rattle.grid.specs.Simulator.{least_time_step, least_duration, stations_of, cables_of, breakers_of}
use Rattle.grid.specs.declared.simulator.DcSwitchingSimulator.{DcSwitchingSimulator}

-- what a study uses of the time step, in milliseconds, and of the duration: both raised, also where the grid was put together by hand
abbrev pub time_step_ms : DcSwitchingSimulator → Float
time_step_ms g = div binary64 (max_of g.dt_us least_time_step) kilo

abbrev pub duration_ms : DcSwitchingSimulator → Float
duration_ms g = max_of g.duration_ms least_duration

-- the time of a step, numbered from 0: 000's t_ms
abbrev pub time_of_step : DcSwitchingSimulator → ℕ → Float
time_of_step g step = mul binary64 (of_int binary64 (pos step)) (time_step_ms g)

-- rounded up to a whole number. As Rust casts it, a NaN and what is negative give 0, and infinity the largest number there is.
unfoldable pub rounded_up : Float → ℕ
rounded_up nan = 0
rounded_up (inf s) = cond s 0 (2 ^ 64 - 1)
rounded_up (fin true m e) = 0
rounded_up (fin false m e) = (m * up e + (down e - 1)) / down e

-- Steps N = max(1, duration/(dt/1000) rounded up)
abbrev pub steps_of_quotient : Float → ℕ
steps_of_quotient q = max 1 (rounded_up q)

unfoldable pub steps_of : DcSwitchingSimulator → ℕ
steps_of g = steps_of_quotient (div binary64 (duration_ms g) (time_step_ms g))

abbrev pub most_steps : ℕ
most_steps = 1000000

-- N is counted to one past the limit: what has more is refused by 5
abbrev pub counted_to : ℕ → ℕ
counted_to n = min n (most_steps + 1)

-- Interval = the whole part of N/5000, at least 1
abbrev pub interval_of : ℕ → ℕ
interval_of n = max 1 (n / 5000)

-- recorded are multiples of it and step N-1
abbrev pub recorded : ℕ → ℕ → Bool
recorded n step = eqb (step % interval_of n) 0 || eqb step (n - 1)

-- how many numbers below n pass the test
unfoldable pub count_below : (ℕ → Bool) → ℕ → ℕ
count_below f zero = 0
count_below f (suc n) = cond (f n) 1 0 + count_below f n

-- how many of a run's N steps are recorded
abbrev pub records_of : ℕ → ℕ
records_of n = count_below (recorded n) n

-- a record is time, fault current, voltages, station currents, cable currents, breakers
abbrev pub record_length : DcSwitchingSimulator → ℕ
record_length g =
    let stations = length (stations_of g) in
    2 + stations + stations + length (cables_of g) + length (breakers_of g)
