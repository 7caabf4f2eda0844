-- The claims of specs/Claims. Assumes nothing.
use mathlib.Core.Path.{sym}
use Rattle.lists.proofs.Scanning.{passing_short}
use Rattle.grid.specs.Simulator.{stations_of, cables_of, breakers_of}
use Rattle.part_checks.specs.PartChecks.{station_ok, cable_ok, breaker_ok}
use Rattle.part_positions.specs.Claims.{PositionClaims}

pub position_claims : PositionClaims
position_claims =
    record {
      station = λ g. sym (passing_short station_ok (stations_of g));
      cable = λ g. sym (passing_short cable_ok (cables_of g));
      breaker = λ g. sym (passing_short breaker_ok (breakers_of g));
    }
