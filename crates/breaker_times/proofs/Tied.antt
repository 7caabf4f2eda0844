-- The claims speak of what the code returns: what a caller learns from a contract in src/, as Rattle reads its clauses, gives the claim of the result, and nothing is asked of the caller.
-- Assumes nothing.
use mathlib.Core.Path.{◌≡◌, sym, subst}
use mathlib.Core.Bool.{true}
use lib.Ieee.{Float, le}
use Rattle.lists.specs.Scans.{every}
use Rattle.grid.specs.Simulator.{breakers_of}
use contract.Lifetimes.{Lfts}
use borrow.Fn.World.{ArgsD, ResD}
use borrow.Fn.Kinds.{ended_of}
use denote.Triple.Clauses.{AtExit}
use Rattle.breaker_times.specs.Breakers.{time_of}
use Rattle.breaker_times.specs.Claims.{timed}
use Rattle.breaker_times.proofs.Fastest.{breaker_claims}
use Rattle.breaker_times.specs.contracts.breakers.fastest_breaker_clearing_ms as fastest-contract
use Rattle.breaker_times.proofs.breakers.fastest_breaker_clearing_ms.Kinds as fastest-kinds
use Rattle.breaker_times.proofs.breakers.fastest_breaker_clearing_ms.Reads as fastest-reads
use Rattle.breaker_times.specs.contracts.breakers.breaker_clearing_time_ms as breaker-clearing-time-ms-contract
use Rattle.breaker_times.proofs.breakers.breaker_clearing_time_ms.Reads as breaker-clearing-time-ms-reads

module _ (κs : Lfts 0) (a : ArgsD fastest-contract.signature κs) (r : ResD fastest-contract.signature κs) (e : AtExit (ended_of 0 fastest-kinds.ps fastest-kinds.r) κs) where
  pub fastest_any : fastest-reads.Asked κs a
  fastest_any = tt

  pub fastest-least : fastest-reads.Learnt κs a r e → every timed (breakers_of a.0) ≡ true → every (λ b. le r (time_of b)) (breakers_of a.0) ≡ true
  fastest-least h k = subst (λ (t : Float). every (λ b. le t (time_of b)) (breakers_of a.0) ≡ true) (sym h) (breaker_claims.none_faster a.0 k)

module _ (κs : Lfts 0) where
  pub breaker_clearing_time_ms_any : (a : ArgsD breaker-clearing-time-ms-contract.signature κs) → breaker-clearing-time-ms-reads.Asked κs a
  breaker_clearing_time_ms_any a = tt
