-- The claims of specs/Claims. Assumes nothing.
use Prim.Native.Nat.{◌+◌, ◌≤◌, ◌<◌, min}
use mathlib.Core.Path.{◌≡◌}
use native.Mathlib.Omega.{arith}
use borrow.Author.Tests.{eq-eqb, ne_eqb}
use lib.Ieee.{nan}
use Rattle.lists.specs.Tables.{padded}
use Rattle.lists.specs.Scans.{some}
use Rattle.lists.proofs.Fills.{get_d_padded}
use Rattle.float64.specs.Constants.{nought}
use Rattle.float64.specs.Arithmetic.{of}
use Rattle.run_start.specs.Start.{rated, rated_of}
use Rattle.lists.proofs.Scanning.{or_second, some_found, some_same}
use Rattle.grid.specs.declared.simulator.DcSwitchingSimulator.{DcSwitchingSimulator}
use Rattle.rules.specs.Studies.{detection_refusal}
use Rattle.state_derivatives.specs.declared.state.DcTransientState.{DcTransientState}
use Rattle.detection.specs.Detection.{time_between, fast_cable, low, low_station, detected, shown_by, detected_by, detection}
use Rattle.detection.specs.Claims.{Alike, DetectionClaims}

module _ (g : DcSwitchingSimulator) (s t before past : DcTransientState) (a : Alike g s t) (b : Alike g before past) where
  same-currents
      : some g.n_cables (fast_cable g.n_stations (time_between s.time_ms before.time_ms) s.y before.y)
      ≡ some g.n_cables (fast_cable g.n_stations (time_between t.time_ms past.time_ms) t.y past.y)
  same-currents =
      some_same
      (fast_cable g.n_stations (time_between s.time_ms before.time_ms) s.y before.y)
      (fast_cable g.n_stations (time_between t.time_ms past.time_ms) t.y past.y)
      g.n_cables
      (λ k l. let h : g.n_stations + k < g.n_stations + g.n_cables = omega arith in
      rw (a.time, b.time, a.numbers (g.n_stations + k) h, b.numbers (g.n_stations + k) h))

  same_voltages : some g.n_stations (low_station g.stations s.y) ≡ some g.n_stations (low_station g.stations t.y)
  same_voltages =
      some_same (low_station g.stations s.y) (low_station g.stations t.y) g.n_stations
      (λ i l. let h : i < g.n_stations + g.n_cables = omega arith in rw (a.numbers i h))

-- the table has the rated voltages of the stations
module _ (g : DcSwitchingSimulator) (s before : DcTransientState) (few : g.n_stations ≤ 32) (fewer : g.n_cables ≤ 64) where
  by_table : detected_by (rated_of g) g.n_stations g.n_cables s before ≡ detected g s before
  unfolding detected shown_by detected_by rated_of
  by_table =
      let n : min g.n_stations 32 ≡ g.n_stations = omega arith in
      let m : min g.n_cables 64 ≡ g.n_cables = omega arith in
      rw (
        n,
        m,
        some_same (λ i. low (of s.y i) (of (padded 96 g.n_stations (rated g.stations) nought) i)) (low_station g.stations s.y) g.n_stations
            (λ i l. rw (get_d_padded 96 g.n_stations (rated g.stations) nought nan i l (omega arith))),
      )

pub detection_claims : DetectionClaims
unfolding detected detection
detection_claims =
    record {
      accepted = λ g s before h. rw (eq-eqb (detection_refusal g) 0 h);
      refused = λ g s before h. rw (ne_eqb (detection_refusal g) 0 h);
      up_to_counts = λ g s t before past a b. rw (same-currents g s t before past a b, same_voltages g s t before past a b);
      by_table = by_table;
      current = λ g s before k l h. rw (some_found (fast_cable g.n_stations (time_between s.time_ms before.time_ms) s.y before.y) g.n_cables k l h);
      voltage = λ g s before i l h. or_second (some g.n_cables (fast_cable g.n_stations (time_between s.time_ms before.time_ms) s.y before.y)) (some g.n_stations (low_station g.stations s.y)) (some_found (low_station g.stations s.y) g.n_stations i l h);
    }
