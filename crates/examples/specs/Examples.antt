-- Document 01's checked examples that are marked P, about the definitions.
use Rattle.std.specs.Prelude.{◌≡◌, Float}
use Rattle.std.specs.Float.{nan}
use Rattle.std.specs.Float.Ieee.{neg}
use Rattle.float64.specs.Constants.{decimal}
use Rattle.float64.specs.Choice.{max_of}
use Rattle.square_root.specs.Root.{root_of}
use Rattle.elementary.specs.Exponential.{E}
use Rattle.elementary.specs.Wave.{S, C}
use Rattle.grid.specs.Parts.{submodules_of}
use Rattle.grid.specs.Simulator.{new_simulator}
use Rattle.timing.specs.Steps.{steps_of}
use Rattle.breaker_times.specs.Breakers.{clearing_time_of}
use Rattle.grid.specs.declared.parts.DcBreakerType.TheVariants.{SolidState, HybridBreaker}

pub record Examples : Type 0 where
  -- root 4 = 2
  pub root : root_of (decimal 4 1) ≡ decimal 2 1
  -- E(0) = 1
  pub exponential_of_0 : E (decimal 0 1) ≡ decimal 1 1
  -- E(-701) = 0
  pub exponential_of_minus_701 : E (neg (decimal 701 1)) ≡ decimal 0 1
  -- S(0) = 0
  pub sine_of_0 : S (decimal 0 1) ≡ decimal 0 1
  -- C(0) = 1
  pub cosine_of_0 : C (decimal 0 1) ≡ decimal 1 1
  -- max(NaN, 1) = 1
  pub maximum : max_of nan (decimal 1 1) ≡ decimal 1 1
  -- solid-state 500 µs gives 0.5
  pub solid_state : (loss : Float) → clearing_time_of (SolidState (decimal 500 1) loss) ≡ decimal 5 10
  -- hybrid 10 ms, 2000 µs gives 5
  pub hybrid : clearing_time_of (HybridBreaker (decimal 10 1) (decimal 2000 1)) ≡ decimal 5 1
  -- duration 1, dt 300 gives 4 steps
  pub steps : steps_of (new_simulator (decimal 300 1) (decimal 1 1)) ≡ 4
  -- an MMC with 0 submodules counts as 1
  pub submodules : submodules_of 0 ≡ 1
