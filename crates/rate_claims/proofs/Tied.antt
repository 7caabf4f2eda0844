-- The claims speak of what the code returns: what a caller learns from the contract of `network_of`, as Rattle reads its clauses, gives the claim of the result.
-- Assumes nothing.
use Prim.Native.Nat.{◌≤◌}
use mathlib.Core.Path.{◌≡◌}
use mathlib.Core.List.{List}
use lib.Ieee.{Float}
use contract.Lifetimes.{Lfts}
use borrow.Fn.World.{ArgsD, ResD}
use borrow.Fn.Kinds.{ended_of}
use denote.Triple.Clauses.{AtExit}
use Rattle.network.specs.declared.network.Drain.{Drain}
use Rattle.state_derivatives.specs.Derivatives.{slopes}
use Rattle.state_derivatives.specs.OfGrid.{grid_derivatives}
use Rattle.rate_claims.proofs.Claims.{network_claims}
use Rattle.network.specs.contracts.network_of as network-contract
use Rattle.network.proofs.network_of.Kinds as network-kinds
use Rattle.network.proofs.network_of.Reads as network-reads

module _ (κs : Lfts 0) (a : ArgsD network-contract.signature κs) (r : ResD network-contract.signature κs) (e : AtExit (ended_of 0 network-kinds.ps network-kinds.r) κs) where
  -- the rates by the network that is returned are the grid's
  pub network_rates : network-reads.Learnt κs a r e → (d : Drain) (y : List Float) → a.0.n_stations ≤ 32 → a.0.n_cables ≤ 64 → slopes r d y ≡ grid_derivatives a.0 d y
  network_rates h d y n m = rw h (network_claims.rates a.0 d y n m)
