-- What document 01 says of the fastest breaker in words. The proofs are in proofs/Fastest.antt.
use Rattle.std.specs.Prelude.{◌≡◌, Bool, true, List, ℕ, ◌<◌, length, get_or, Float}
use Rattle.std.specs.Float.Ieee.{lt, le}
use Rattle.lists.specs.Scans.{every}
use Rattle.grid.specs.Simulator.{breakers_of, blank_breaker}
use Rattle.grid.specs.declared.parts.DcBreaker.{DcBreaker}
use Rattle.grid.specs.declared.simulator.DcSwitchingSimulator.{DcSwitchingSimulator}
use Rattle.timing.specs.Steps.{duration_ms}
use Rattle.breaker_times.specs.Breakers.{time_of, largest, fastest_of}

-- a breaker among bs has the time t
pub record HasTime (bs : List DcBreaker) (t : Float) : Type 0 where
  pub position : ℕ
  pub within : position < length bs
  pub same : time_of (get_or bs position blank_breaker) ≡ t

-- each time is a number below the largest double, as those of accepted breakers are
abbrev pub timed : DcBreaker → Bool
timed b = lt (time_of b) largest

-- "Fastest of all": one of the breakers has that time, and none is faster
pub record BreakerClaims : Type 0 where
  pub none_faster : (g : DcSwitchingSimulator) → every timed (breakers_of g) ≡ true → every (λ b. le (fastest_of g) (time_of b)) (breakers_of g) ≡ true
  pub one_of_them : (g : DcSwitchingSimulator) → every timed (breakers_of g) ≡ true → 0 < length (breakers_of g) → HasTime (breakers_of g) (fastest_of g)
  -- "without breakers the duration"
  pub without : (g : DcSwitchingSimulator) → g.n_breakers ≡ 0 → fastest_of g ≡ duration_ms g
