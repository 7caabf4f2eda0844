-- The operating points from currents that are computed for all stations at once. Assumes nothing.
use Prim.Native.Nat.{ℕ, zero, suc, ◌≤◌, ◌<◌}
use native.Mathlib.Omega.{arith}
use mathlib.Core.Path.{◌≡◌, refl, ◌∙◌}
use mathlib.Core.List.{List}
use lib.ListN.{get_or}
use lib.Ieee.{Float, nan}
use Rattle.lists.specs.Tables.{padded}
use Rattle.lists.proofs.Fills.{padded_same, get_d_padded}
use Rattle.float64.specs.Constants.{nought}
use Rattle.float64.specs.Arithmetic.{added_up, of}
use Rattle.grid.specs.Simulator.{blank_station}
use Rattle.grid.specs.declared.parts.ConverterStation.{ConverterStation}
use Rattle.converter.specs.declared.point.ConverterOperatingPoint.{ConverterOperatingPoint}
use Rattle.converter.specs.Point.{blank_point}
use Rattle.flow_voltages.specs.Balance.{current, currents}
use Rattle.power_flow.specs.Solution.{operating_point, point_of, operating_points}

-- what the code computes of them, and their losses
module _ (stations : List ConverterStation) (n : ℕ) (m v : List Float) {i : List Float} (l : n ≤ 32) (currents-are : i ≡ currents m n v) where
  point_at : (k : ℕ) → k < n → operating_point (get_or stations k blank_station) (of v k) (of i k) ≡ point_of stations n m v k
  point_at k lk = rw (currents-are, get_d_padded 32 n (current m n v) nought nan k lk l)

  pub points_from : {points : List ConverterOperatingPoint} → points ≡ padded 32 n (λ k. operating_point (get_or stations k blank_station) (of v k) (of i k)) blank_point → points ≡ operating_points stations n m v
  points_from e = e ∙ padded_same 32 n (λ k. operating_point (get_or stations k blank_station) (of v k) (of i k)) (point_of stations n m v) blank_point point_at

  losses_are : (s : Float) (k : ℕ) → k ≤ n → added_up s (λ q. (operating_point (get_or stations q blank_station) (of v q) (of i q)).losses_mw) k ≡ added_up s (λ q. (point_of stations n m v q).losses_mw) k
  losses_are s zero h = refl
  losses_are s (suc k) h = rw (losses_are s k (omega arith), point_at k h)

  pub total_from : (s : Float) {t : Float} → t ≡ added_up s (λ k. (operating_point (get_or stations k blank_station) (of v k) (of i k)).losses_mw) n → t ≡ added_up s (λ k. (point_of stations n m v k).losses_mw) n
  total_from s e = e ∙ losses_are s n (omega arith)
