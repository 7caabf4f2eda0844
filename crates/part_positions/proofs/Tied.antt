-- The claims speak of what the code returns: what a caller learns from a contract in src/, as Rattle reads its clauses, gives the claim of the result, and nothing is asked of the caller.
-- Assumes nothing.
use mathlib.Core.Path.{◌≡◌, sym, ◌∙◌, ap}
use mathlib.Core.Bool.{not}
use Prim.Native.Nat.{ℕ}
use lib.Dec.{ltb}
use lib.ListN.{length}
use contract.Lifetimes.{Lfts}
use borrow.Fn.World.{ArgsD, ResD}
use borrow.Fn.Kinds.{ended_of}
use denote.Triple.Clauses.{AtExit}
use Rattle.lists.specs.Scans.{every}
use Rattle.grid.specs.Simulator.{stations_of, cables_of, breakers_of}
use Rattle.part_checks.specs.PartChecks.{station_ok, cable_ok, breaker_ok}
use Rattle.part_positions.proofs.Claims.{position_claims}
use Rattle.part_positions.specs.contracts.positions.first_bad_station as first-bad-station-contract
use Rattle.part_positions.proofs.positions.first_bad_station.Kinds as first-bad-station-kinds
use Rattle.part_positions.proofs.positions.first_bad_station.Reads as first-bad-station-reads
use Rattle.part_positions.specs.contracts.positions.first_bad_cable as first-bad-cable-contract
use Rattle.part_positions.proofs.positions.first_bad_cable.Kinds as first-bad-cable-kinds
use Rattle.part_positions.proofs.positions.first_bad_cable.Reads as first-bad-cable-reads
use Rattle.part_positions.specs.contracts.positions.first_bad_breaker as first-bad-breaker-contract
use Rattle.part_positions.proofs.positions.first_bad_breaker.Kinds as first-bad-breaker-kinds
use Rattle.part_positions.proofs.positions.first_bad_breaker.Reads as first-bad-breaker-reads

module _ (κs : Lfts 0) (a : ArgsD first-bad-station-contract.signature κs) (r : ResD first-bad-station-contract.signature κs) (e : AtExit (ended_of 0 first-bad-station-kinds.ps first-bad-station-kinds.r) κs) where
  pub first_bad_station_any : first-bad-station-reads.Asked κs a
  first_bad_station_any = tt

  pub first_bad_station_short : first-bad-station-reads.Learnt κs a r e → ltb r (length (stations_of a.0)) ≡ not (every station_ok (stations_of a.0))
  first_bad_station_short h = ap (λ (p : ℕ). ltb p (length (stations_of a.0))) h ∙ sym (position_claims.station a.0)

module _ (κs : Lfts 0) (a : ArgsD first-bad-cable-contract.signature κs) (r : ResD first-bad-cable-contract.signature κs) (e : AtExit (ended_of 0 first-bad-cable-kinds.ps first-bad-cable-kinds.r) κs) where
  pub first_bad_cable_any : first-bad-cable-reads.Asked κs a
  first_bad_cable_any = tt

  pub first_bad_cable_short : first-bad-cable-reads.Learnt κs a r e → ltb r (length (cables_of a.0)) ≡ not (every cable_ok (cables_of a.0))
  first_bad_cable_short h = ap (λ (p : ℕ). ltb p (length (cables_of a.0))) h ∙ sym (position_claims.cable a.0)

module _ (κs : Lfts 0) (a : ArgsD first-bad-breaker-contract.signature κs) (r : ResD first-bad-breaker-contract.signature κs) (e : AtExit (ended_of 0 first-bad-breaker-kinds.ps first-bad-breaker-kinds.r) κs) where
  pub first_bad_breaker_any : first-bad-breaker-reads.Asked κs a
  first_bad_breaker_any = tt

  pub first_bad_breaker_short : first-bad-breaker-reads.Learnt κs a r e → ltb r (length (breakers_of a.0)) ≡ not (every breaker_ok (breakers_of a.0))
  first_bad_breaker_short h = ap (λ (p : ℕ). ltb p (length (breakers_of a.0))) h ∙ sym (position_claims.breaker a.0)
