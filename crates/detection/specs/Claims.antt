-- What document 01 says of detection in words. The proofs are in proofs/Claims.antt.
use Rattle.std.specs.Prelude.{ℕ, ◌+◌, ◌≤◌, ◌<◌, ◌≡◌, true, false}
use Rattle.float64.specs.Arithmetic.{of}
use Rattle.grid.specs.declared.simulator.DcSwitchingSimulator.{DcSwitchingSimulator}
use Rattle.rules.specs.Studies.{detection_refusal}
use Rattle.run_start.specs.Start.{rated_of}
use Rattle.state_derivatives.specs.declared.state.DcTransientState.{DcTransientState}
use Rattle.detection.specs.Detection.{time_between, fast_cable, low_station, detected, detected_by, detection}

-- two states that are one as far as a grid's counts go
pub record Alike (g : DcSwitchingSimulator) (s t : DcTransientState) : Type 0 where
  pub time : s.time_ms ≡ t.time_ms
  pub numbers : (i : ℕ) → i < g.n_stations + g.n_cables → of s.y i ≡ of t.y i

pub record DetectionClaims : Type 0 where
  pub accepted : (g : DcSwitchingSimulator) (s before : DcTransientState) → detection_refusal g ≡ 0 → detection g s before ≡ detected g s before
  pub refused : (g : DcSwitchingSimulator) (s before : DcTransientState) → (detection_refusal g ≡ 0 → ⊥) → detection g s before ≡ false
  -- "two states with any doubles, read up to that grid's counts"
  pub up_to_counts : (g : DcSwitchingSimulator) (s t before past : DcTransientState) → Alike g s t → Alike g before past → detection g s before ≡ detection g t past
  -- what a sweep asks of an accepted grid, by its counts and its table of rated voltages
  pub by_table : (g : DcSwitchingSimulator) (s before : DcTransientState) → g.n_stations ≤ 32 → g.n_cables ≤ 64
      → detected_by (rated_of g) g.n_stations g.n_cables s before ≡ detected g s before
  -- one current that changes fast shows, and so does one voltage that is low
  pub current : (g : DcSwitchingSimulator) (s before : DcTransientState) (k : ℕ) → k < g.n_cables
      → fast_cable g.n_stations (time_between s.time_ms before.time_ms) s.y before.y k ≡ true → detected g s before ≡ true
  pub voltage : (g : DcSwitchingSimulator) (s before : DcTransientState) (i : ℕ) → i < g.n_stations → low_station g.stations s.y i ≡ true → detected g s before ≡ true
