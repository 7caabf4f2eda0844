-- The claims speak of what the code returns: what a caller learns from a contract in src/, as Rattle reads its clauses, gives the claim of the result, and nothing is asked of the caller.
-- Assumes nothing.
use Prim.Native.Nat.{ℕ, ◌+◌, ◌<◌}
use mathlib.Core.Path.{◌≡◌}
use native.Mathlib.Omega.{arith}
use lib.Ieee.{nan}
use contract.Lifetimes.{Lfts}
use borrow.Fn.World.{ArgsD, ResD}
use borrow.Fn.Kinds.{ended_of}
use denote.Triple.Clauses.{AtExit}
use Rattle.lists.proofs.Fills.{get_d_padded}
use Rattle.float64.specs.Constants.{nought}
use Rattle.float64.specs.Arithmetic.{of}
use Rattle.network.specs.Network.{end}
use Rattle.state_derivatives.specs.Derivatives.{net, derivative, derivatives, stations_in, cables_in}
use Rattle.state_derivatives.specs.contracts.derivatives.state_derivatives as derivatives-contract
use Rattle.state_derivatives.proofs.derivatives.state_derivatives.Kinds as derivatives-kinds
use Rattle.state_derivatives.proofs.derivatives.state_derivatives.Reads as derivatives-reads
use Rattle.state_derivatives.specs.contracts.derivatives.net_currents as currents-contract
use Rattle.state_derivatives.proofs.derivatives.net_currents.Kinds as currents-kinds
use Rattle.state_derivatives.proofs.derivatives.net_currents.Reads as currents-reads

module _ (κs : Lfts 1) (a : ArgsD derivatives-contract.signature κs) (r : ResD derivatives-contract.signature κs) (e : AtExit (ended_of 1 derivatives-kinds.ps derivatives-kinds.r) κs) where
  pub derivatives_any : derivatives-reads.Asked κs a
  derivatives_any = tt

  -- how fast a number of the state changes
  pub derivatives_each : derivatives-reads.Learnt κs a r e → (i : ℕ)
      → let w = a.0.now in
      i < stations_in w + cables_in w
      → of r.dy i ≡ derivative (end w.from) (end w.to) (of w.resistance_ohm) (of w.inductance_h) (of w.capacitance_f) a.1.0 (stations_in w) (cables_in w) a.1.1.0.y i
  unfolding derivatives
  derivatives_each h i l = rw h (get_d_padded 96 _ _ nought nan i l (omega arith))

module _ (κs : Lfts 1) (a : ArgsD currents-contract.signature κs) (r : ResD currents-contract.signature κs) (e : AtExit (ended_of 1 currents-kinds.ps currents-kinds.r) κs) where
  pub currents_any : currents-reads.Asked κs a
  currents_any = tt

  -- the current into a station
  pub currents_each : currents-reads.Learnt κs a r e → (i : ℕ)
      → let w = a.0.now in
      i < stations_in w
      → of r i ≡ net (end w.from) (end w.to) (stations_in w) a.1.0.y (cables_in w) i
  currents_each h i l = rw h (get_d_padded 32 _ _ nought nan i l (omega arith))
