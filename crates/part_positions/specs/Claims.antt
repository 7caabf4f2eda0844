-- What a reader expects of positions beside the definitions. The proofs are in proofs/Claims.antt.
use Rattle.std.specs.Prelude.{◌≡◌, not, ltb, length}
use Rattle.lists.specs.Scans.{every, passing}
use Rattle.grid.specs.Simulator.{stations_of, cables_of, breakers_of}
use Rattle.part_checks.specs.PartChecks.{station_ok, cable_ok, breaker_ok}
use Rattle.grid.specs.declared.simulator.DcSwitchingSimulator.{DcSwitchingSimulator}

-- not every part is accepted exactly where the position of the first bad one lies before their end
pub record PositionClaims : Type 0 where
  pub station : (g : DcSwitchingSimulator) → not (every station_ok (stations_of g)) ≡ ltb (passing station_ok (stations_of g)) (length (stations_of g))
  pub cable : (g : DcSwitchingSimulator) → not (every cable_ok (cables_of g)) ≡ ltb (passing cable_ok (cables_of g)) (length (cables_of g))
  pub breaker : (g : DcSwitchingSimulator) → not (every breaker_ok (breakers_of g)) ≡ ltb (passing breaker_ok (breakers_of g)) (length (breakers_of g))
