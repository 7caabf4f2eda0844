-- The claims speak of what the code returns: what a caller learns from a contract of `conductances`, as Rattle reads its clauses, gives the claim of the result.
-- Assumes nothing.
use Prim.Native.Nat.{ℕ, ◌<◌}
use mathlib.Core.Path.{◌≡◌}
use contract.Lifetimes.{Lfts}
use borrow.Fn.World.{ArgsD, ResD}
use borrow.Fn.Kinds.{ended_of}
use denote.Triple.Clauses.{AtExit}
use Rattle.grid.specs.Simulator.{cables_of, station_count}
use Rattle.conductances.specs.Conductances.{entry, cell}
use Rattle.conductance_claims.proofs.Claims.{matrix_claims}
use Rattle.conductances.specs.contracts.conductances_of as matrix-contract
use Rattle.conductances.proofs.conductances_of.Kinds as matrix-kinds
use Rattle.conductances.proofs.conductances_of.Reads as matrix-reads

module _ (κs : Lfts 1) (a : ArgsD matrix-contract.signature κs) (r : ResD matrix-contract.signature κs) (e : AtExit (ended_of 1 matrix-kinds.ps matrix-kinds.r) κs) where
  module _ (h : matrix-reads.Learnt κs a r e) (i j : ℕ) (li : i < 32) (lj : j < 32) where
    pub matrix_placed : cell r i j ≡ entry (station_count a.0.now.n_stations) (cables_of a.0.now) i j
    matrix_placed = rw h (matrix_claims.placed (station_count a.0.now.n_stations) i j (cables_of a.0.now) li lj)
