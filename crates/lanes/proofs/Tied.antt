-- What a caller learns from the contracts in src/, as Rattle reads their clauses, is E (S) of each lane, and nothing is asked of the caller. Assumes nothing.
use mathlib.Core.Path.{◌≡◌}
use Prim.Native.Nat.{ℕ, ◌<◌}
use contract.Lifetimes.{Lfts}
use borrow.Fn.World.{ArgsD, ResD}
use borrow.Fn.Kinds.{ended_of}
use denote.Triple.Clauses.{AtExit}
use Rattle.float64.specs.Arithmetic.{of}
use Rattle.elementary.specs.Exponential.{E}
use Rattle.elementary.specs.Wave.{S}
use Rattle.lanes.proofs.Lanes.{lane_of}
use Rattle.lanes.specs.contracts.exponential.exp_lanes as exp-contract
use Rattle.lanes.proofs.exponential.exp_lanes.Kinds as exp-kinds
use Rattle.lanes.proofs.exponential.exp_lanes.Reads as exp-reads
use Rattle.lanes.specs.contracts.wave.sin_lanes as sin-contract
use Rattle.lanes.proofs.wave.sin_lanes.Kinds as sin-kinds
use Rattle.lanes.proofs.wave.sin_lanes.Reads as sin-reads

module _ (κs : Lfts 2) (a : ArgsD exp-contract.signature κs) (r : ResD exp-contract.signature κs) (e : AtExit (ended_of 2 exp-kinds.ps exp-kinds.r) κs) where
  pub exp_any : exp-reads.Asked κs a
  exp_any = tt

  pub exp_lane : exp-reads.Learnt κs a r e → (j : ℕ) → j < 16 → of e.0.now j ≡ E (of a.1.0.now j)
  exp_lane h j l = lane_of 16 (λ k. E (of a.1.0.now k)) j l h

module _ (κs : Lfts 2) (a : ArgsD sin-contract.signature κs) (r : ResD sin-contract.signature κs) (e : AtExit (ended_of 2 sin-kinds.ps sin-kinds.r) κs) where
  pub sin_any : sin-reads.Asked κs a
  sin_any = tt

  pub sin_lane : sin-reads.Learnt κs a r e → (j : ℕ) → j < 16 → of e.0.now j ≡ S (of a.1.0.now j)
  sin_lane h j l = lane_of 16 (λ k. S (of a.1.0.now k)) j l h
