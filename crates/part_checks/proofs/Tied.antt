-- Nothing is asked of a caller, as Rattle reads the clauses of the contracts in src/.
-- Assumes nothing.
use contract.Lifetimes.{Lfts}
use borrow.Fn.World.{ArgsD}
use Rattle.part_checks.specs.contracts.accepted.check_station as check-station-contract
use Rattle.part_checks.proofs.accepted.check_station.Reads as check-station-reads
use Rattle.part_checks.specs.contracts.accepted.check_cable as check-cable-contract
use Rattle.part_checks.proofs.accepted.check_cable.Reads as check-cable-reads
use Rattle.part_checks.specs.contracts.accepted.check_breaker as check-breaker-contract
use Rattle.part_checks.proofs.accepted.check_breaker.Reads as check-breaker-reads
use Rattle.part_checks.specs.contracts.accepted.check_event as check-event-contract
use Rattle.part_checks.proofs.accepted.check_event.Reads as check-event-reads
use Rattle.part_checks.specs.contracts.accepted.check_order as check-order-contract
use Rattle.part_checks.proofs.accepted.check_order.Reads as check-order-reads

pub check_station_any : (κs : Lfts 0) (a : ArgsD check-station-contract.signature κs) → check-station-reads.Asked κs a
check_station_any κs a = tt

pub check_cable_any : (κs : Lfts 0) (a : ArgsD check-cable-contract.signature κs) → check-cable-reads.Asked κs a
check_cable_any κs a = tt

pub check_breaker_any : (κs : Lfts 0) (a : ArgsD check-breaker-contract.signature κs) → check-breaker-reads.Asked κs a
check_breaker_any κs a = tt

pub check_event_any : (κs : Lfts 0) (a : ArgsD check-event-contract.signature κs) → check-event-reads.Asked κs a
check_event_any κs a = tt

pub check_order_any : (κs : Lfts 0) (a : ArgsD check-order-contract.signature κs) → check-order-reads.Asked κs a
check_order_any κs a = tt
