-- The claims speak of what the code returns: what a caller learns from the contracts of `network_of` and `rk4_step`, as Rattle reads their clauses, gives the claim of the result.
-- Assumes nothing.
use Prim.Native.Nat.{ℕ, ◌+◌, ◌≤◌, ◌<◌}
use mathlib.Core.Path.{◌≡◌}
use mathlib.Core.Bool.{true}
use lib.Ieee.{Float, le}
use contract.Lifetimes.{Lfts}
use borrow.Fn.World.{ArgsD, ResD}
use borrow.Fn.Kinds.{ended_of}
use denote.Triple.Clauses.{AtExit}
use Rattle.float64.specs.Constants.{nought}
use Rattle.float64.specs.Arithmetic.{of}
use Rattle.network.specs.declared.network.Drain.{Drain}
use Rattle.state_derivatives.specs.declared.state.DcTransientState.{DcTransientState}
use Rattle.state_derivatives.specs.Derivatives.{stations_in, cables_in, slopes}
use Rattle.transient.specs.Rk4.{rk4_step}
use Rattle.transient.specs.OfGrid.{grid_step}
use Rattle.step_claims.specs.Claims.{classical_at}
use Rattle.float64.specs.Choice.{max_of}
use Rattle.step_claims.proofs.Claims.{network_claims, step_claims}
use Rattle.network.specs.contracts.network_of as network-contract
use Rattle.network.proofs.network_of.Kinds as network-kinds
use Rattle.network.proofs.network_of.Reads as network-reads
use Rattle.transient.specs.contracts.rk4_step as step-contract
use Rattle.transient.proofs.rk4_step.Kinds as step-kinds
use Rattle.transient.proofs.rk4_step.Reads as step-reads

module _ (κs : Lfts 0) (a : ArgsD network-contract.signature κs) (r : ResD network-contract.signature κs) (e : AtExit (ended_of 0 network-kinds.ps network-kinds.r) κs) where
  -- a step by the network that is returned is the grid's
  pub network_step : network-reads.Learnt κs a r e → (d : Drain) (s : DcTransientState) (dt : Float) → a.0.n_stations ≤ 32 → a.0.n_cables ≤ 64 → rk4_step r d s dt ≡ grid_step a.0 d s dt
  network_step h d s dt n m = rw h (network_claims.step a.0 d s dt n m)

module _ (κs : Lfts 0) (a : ArgsD step-contract.signature κs) (r : ResD step-contract.signature κs) (e : AtExit (ended_of 0 step-kinds.ps step-kinds.r) κs) where
  pub step_voltages : step-reads.Learnt κs a r e → (i : ℕ) → i < stations_in a.0 → le nought (of r.y i) ≡ true
  step_voltages h i l = rw h (step_claims.voltages a.0 a.1.0 a.1.1.0 a.1.1.1.0 i l)

  pub step_new_voltages : step-reads.Learnt κs a r e → (i : ℕ) → i < stations_in a.0
      → of r.y i ≡ max_of (classical_at (stations_in a.0 + cables_in a.0) (slopes a.0 a.1.0) a.1.1.1.0 a.1.1.0.y i) nought
  step_new_voltages h i l = rw h (step_claims.new_voltages a.0 a.1.0 a.1.1.0 a.1.1.1.0 i l)

  pub step_currents : step-reads.Learnt κs a r e → (k : ℕ) → k < cables_in a.0
      → let n = stations_in a.0 in
      of r.y (n + k) ≡ classical_at (n + cables_in a.0) (slopes a.0 a.1.0) a.1.1.1.0 a.1.1.0.y (n + k)
  step_currents h k l = rw h (step_claims.cable_currents a.0 a.1.0 a.1.1.0 a.1.1.1.0 k l)
