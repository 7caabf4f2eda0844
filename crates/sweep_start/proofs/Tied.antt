-- What a caller learns from the contract in src/, as Rattle reads its clauses, is the definition of the result, and nothing is asked of the caller. Assumes nothing.
use mathlib.Core.Path.{◌≡◌}
use Rattle.std.specs.Prelude.{IfOk}
use contract.Lifetimes.{Lfts}
use borrow.Fn.World.{ArgsD, ResD}
use borrow.Fn.Kinds.{ended_of}
use denote.Triple.Clauses.{AtExit}
use Rattle.rules.specs.Studies.{number_of}
use Rattle.sweep_start.specs.Start.{sweep_refused, started_sweep}
use Rattle.sweep_start.specs.contracts.start.start_sweep as start-contract
use Rattle.sweep_start.proofs.start.start_sweep.Kinds as start-kinds
use Rattle.sweep_start.proofs.start.start_sweep.Reads as start-reads

module _ (κs : Lfts 0) (a : ArgsD start-contract.signature κs) (r : ResD start-contract.signature κs) (e : AtExit (ended_of 0 start-kinds.ps start-kinds.r) κs) where
  pub start_any : start-reads.Asked κs a
  start_any = tt

  pub start_refusal : start-reads.Learnt κs a r e → number_of r ≡ sweep_refused a.0 a.1.0
  start_refusal h = h.0

  pub start_kept : start-reads.Learnt κs a r e → IfOk r (λ sweep. sweep ≡ started_sweep a.0 a.1.0)
  start_kept h = h.1
