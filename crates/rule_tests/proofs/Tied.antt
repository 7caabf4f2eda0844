-- What a caller learns from the contracts in src/, as Rattle reads their clauses, is the definition of the result, and nothing is asked of the caller. Assumes nothing.
use mathlib.Core.Path.{◌≡◌}
use contract.Lifetimes.{Lfts}
use borrow.Fn.World.{ArgsD, ResD}
use borrow.Fn.Kinds.{ended_of}
use denote.Triple.Clauses.{AtExit}
use Rattle.rule_tests.specs.Rules.{too_many_parts, time_outside, too_many_steps, station_outside, cable_outside, breaker_outside}
use Rattle.rule_tests.specs.contracts.tests.too_many_parts as parts-contract
use Rattle.rule_tests.proofs.tests.too_many_parts.Kinds as parts-kinds
use Rattle.rule_tests.proofs.tests.too_many_parts.Reads as parts-reads
use Rattle.rule_tests.specs.contracts.tests.time_outside as time-contract
use Rattle.rule_tests.proofs.tests.time_outside.Kinds as time-kinds
use Rattle.rule_tests.proofs.tests.time_outside.Reads as time-reads
use Rattle.rule_tests.specs.contracts.tests.too_many_steps as steps-contract
use Rattle.rule_tests.proofs.tests.too_many_steps.Kinds as steps-kinds
use Rattle.rule_tests.proofs.tests.too_many_steps.Reads as steps-reads
use Rattle.rule_tests.specs.contracts.tests.station_outside as station-contract
use Rattle.rule_tests.proofs.tests.station_outside.Kinds as station-kinds
use Rattle.rule_tests.proofs.tests.station_outside.Reads as station-reads
use Rattle.rule_tests.specs.contracts.tests.cable_outside as cable-contract
use Rattle.rule_tests.proofs.tests.cable_outside.Kinds as cable-kinds
use Rattle.rule_tests.proofs.tests.cable_outside.Reads as cable-reads
use Rattle.rule_tests.specs.contracts.tests.breaker_outside as breaker-contract
use Rattle.rule_tests.proofs.tests.breaker_outside.Kinds as breaker-kinds
use Rattle.rule_tests.proofs.tests.breaker_outside.Reads as breaker-reads

module _ (κs : Lfts 0) (a : ArgsD parts-contract.signature κs) (r : ResD parts-contract.signature κs) (e : AtExit (ended_of 0 parts-kinds.ps parts-kinds.r) κs) where
  pub parts_any : parts-reads.Asked κs a
  parts_any = tt

  pub parts_is : parts-reads.Learnt κs a r e → r ≡ too_many_parts a.0
  parts_is h = h

module _ (κs : Lfts 0) (a : ArgsD time-contract.signature κs) (r : ResD time-contract.signature κs) (e : AtExit (ended_of 0 time-kinds.ps time-kinds.r) κs) where
  pub time_any : time-reads.Asked κs a
  time_any = tt

  pub time_is : time-reads.Learnt κs a r e → r ≡ time_outside a.0
  time_is h = h

module _ (κs : Lfts 0) (a : ArgsD steps-contract.signature κs) (r : ResD steps-contract.signature κs) (e : AtExit (ended_of 0 steps-kinds.ps steps-kinds.r) κs) where
  pub steps_any : steps-reads.Asked κs a
  steps_any = tt

  pub steps_is : steps-reads.Learnt κs a r e → r ≡ too_many_steps a.0
  steps_is h = h

module _ (κs : Lfts 0) (a : ArgsD station-contract.signature κs) (r : ResD station-contract.signature κs) (e : AtExit (ended_of 0 station-kinds.ps station-kinds.r) κs) where
  pub station_any : station-reads.Asked κs a
  station_any = tt

  pub station_is : station-reads.Learnt κs a r e → r ≡ station_outside a.0
  station_is h = h

module _ (κs : Lfts 0) (a : ArgsD cable-contract.signature κs) (r : ResD cable-contract.signature κs) (e : AtExit (ended_of 0 cable-kinds.ps cable-kinds.r) κs) where
  pub cable_any : cable-reads.Asked κs a
  cable_any = tt

  pub cable_is : cable-reads.Learnt κs a r e → r ≡ cable_outside a.0
  cable_is h = h

module _ (κs : Lfts 0) (a : ArgsD breaker-contract.signature κs) (r : ResD breaker-contract.signature κs) (e : AtExit (ended_of 0 breaker-kinds.ps breaker-kinds.r) κs) where
  pub breaker_any : breaker-reads.Asked κs a
  breaker_any = tt

  pub breaker_is : breaker-reads.Learnt κs a r e → r ≡ breaker_outside a.0
  breaker_is h = h
