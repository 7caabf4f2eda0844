-- What a caller learns from the contracts in src/, as Rattle reads their clauses, is the definition of the result, and nothing is asked of the caller. Assumes nothing.
use mathlib.Core.Path.{◌≡◌}
use contract.Lifetimes.{Lfts}
use borrow.Fn.World.{ArgsD, ResD}
use borrow.Fn.Kinds.{ended_of}
use denote.Triple.Clauses.{AtExit}
use Rattle.flow_voltages.specs.Balance.{currents_of}
use Rattle.flow_voltages.specs.Voltages.{voltages_of}
use Rattle.flow_voltages.specs.contracts.voltages.find_voltages as find-contract
use Rattle.flow_voltages.proofs.voltages.find_voltages.Kinds as find-kinds
use Rattle.flow_voltages.proofs.voltages.find_voltages.Reads as find-reads
use Rattle.flow_voltages.specs.contracts.voltages.find_with_currents as with-currents-contract
use Rattle.flow_voltages.proofs.voltages.find_with_currents.Kinds as with-currents-kinds
use Rattle.flow_voltages.proofs.voltages.find_with_currents.Reads as with-currents-reads

module _ (κs : Lfts 0) (a : ArgsD find-contract.signature κs) (r : ResD find-contract.signature κs) (e : AtExit (ended_of 0 find-kinds.ps find-kinds.r) κs) where
  pub find_any : find-reads.Asked κs a
  find_any = tt

  pub find_is : find-reads.Learnt κs a r e → r ≡ voltages_of a.0
  find_is h = h

module _ (κs : Lfts 1) (a : ArgsD with-currents-contract.signature κs) (r : ResD with-currents-contract.signature κs) (e : AtExit (ended_of 1 with-currents-kinds.ps with-currents-kinds.r) κs) where
  pub with_currents_any : with-currents-reads.Asked κs a
  with_currents_any = tt

  pub with_currents-found : with-currents-reads.Learnt κs a r e → r.voltages ≡ voltages_of a.0.now
  with_currents-found h = h.0

  pub with_currents_are : with-currents-reads.Learnt κs a r e → r.i_dc_ka ≡ currents_of a.0.now r.voltages.v_dc_kv
  with_currents_are h = rw h.0 h.1
