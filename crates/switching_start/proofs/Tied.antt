-- What a caller learns from the contracts in src/, as Rattle reads their clauses, is the definition of the result, and nothing is asked of the caller. Assumes nothing.
use mathlib.Core.Path.{◌≡◌}
use Rattle.std.specs.Prelude.{IfOk}
use contract.Lifetimes.{Lfts}
use borrow.Fn.World.{ArgsD, ResD}
use borrow.Fn.Kinds.{ended_of}
use denote.Triple.Clauses.{AtExit}
use Rattle.rules.specs.Studies.{number_of, switching_refusal}
use Rattle.switching_runs.specs.SwitchingRuns.{started_switching_run}
use Rattle.switching_start.specs.contracts.start.simulate_switching as simulate-contract
use Rattle.switching_start.proofs.start.simulate_switching.Kinds as simulate-kinds
use Rattle.switching_start.proofs.start.simulate_switching.Reads as simulate-reads

module _ (κs : Lfts 0) (a : ArgsD simulate-contract.signature κs) (r : ResD simulate-contract.signature κs) (e : AtExit (ended_of 0 simulate-kinds.ps simulate-kinds.r) κs) where
  pub simulate_any : simulate-reads.Asked κs a
  simulate_any = tt

  pub simulate_refusal : simulate-reads.Learnt κs a r e → number_of r ≡ switching_refusal a.0
  simulate_refusal h = h.0

  pub simulate_run : simulate-reads.Learnt κs a r e → IfOk r (λ run. run ≡ started_switching_run a.0 a.1.0 a.1.1.0)
  simulate_run h = h.1
