-- What document 01 says of steps in words, and what a reader expects beside the definitions. The proofs are in proofs/Claims.antt and proofs/Raised.antt.
use Rattle.std.specs.Prelude.{◌≡◌, true, false, ℕ, ◌+◌, ◌-◌, ◌*◌, ◌/◌, ◌≤◌, ℤ}
use Rattle.std.specs.Float.{fin}
use Rattle.std.specs.Float.Ieee.{up, down, le}
use Rattle.float64.specs.Constants.{decimal}
use Rattle.grid.specs.declared.simulator.DcSwitchingSimulator.{DcSwitchingSimulator}
use Rattle.timing.specs.Steps.{time_step_ms, duration_ms, rounded_up, most_steps, counted_to, interval_of, recorded, records_of}

-- a number of steps that a run can have
abbrev pub Steps : ℕ → Type 0
Steps n = (1 ≤ n) × (n ≤ most_steps)

pub record StepClaims : Type 0 where
  -- "rounded up": the least whole number that is not below m * 2 ^ e
  pub reaches : (m : ℕ) (e : ℤ) → m * up e ≤ rounded_up (fin false m e) * down e
  pub least : (m : ℕ) (e : ℤ) (n : ℕ) → m * up e ≤ n * down e → rounded_up (fin false m e) ≤ n
  -- up to the limit the count is the number
  pub counted : (n : ℕ) → Steps n → counted_to n ≡ n
  -- the recorded steps: the multiples of the interval before the last step, (n - 1) / interval rounded up, and the last
  pub records : (n : ℕ) → 1 ≤ n → records_of n ≡ 1 + (n - 1 + (interval_of n - 1)) / interval_of n
  pub first_recorded : (n : ℕ) → recorded n 0 ≡ true
  pub last_recorded : (n : ℕ) → recorded n (n - 1) ≡ true

-- "raised to at least 0.1", µs, and "raised to at least 0.001", ms: of every grid, also of one put together by hand, and where a NaN stands
pub record RaisedClaims : Type 0 where
  pub time_step_lem : (g : DcSwitchingSimulator) → le (decimal 1 10000) (time_step_ms g) ≡ true
  pub duration : (g : DcSwitchingSimulator) → le (decimal 1 1000) (duration_ms g) ≡ true
