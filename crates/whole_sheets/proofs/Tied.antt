-- The claims speak of what the code returns: what a caller learns from a contract in src/, as Rattle reads its clauses, gives the claim of the result, and nothing is asked of the caller.
-- Assumes nothing.
use mathlib.Core.Path.{◌≡◌, sym, ◌∙◌}
use contract.Lifetimes.{Lfts}
use borrow.Fn.World.{ArgsD, ResD}
use borrow.Fn.Kinds.{ended_of}
use denote.Triple.Clauses.{AtExit}
use Rattle.std.specs.Prelude.{Some}
use Rattle.whole_sheets.specs.Sheets.{fault_number}
use Rattle.whole_sheets.specs.declared.answers.SheetFault.{SheetFault}
use Rattle.whole_sheets.proofs.Claims.{fault_claims, only_one}
use Rattle.whole_sheets.specs.contracts.answers.SheetFault.number as number-contract
use Rattle.whole_sheets.proofs.answers.SheetFault.number.Kinds as number-kinds
use Rattle.whole_sheets.proofs.answers.SheetFault.number.Reads as number-reads
use Rattle.whole_sheets.specs.contracts.answers.SheetFault.of as of-contract
use Rattle.whole_sheets.proofs.answers.SheetFault.of.Kinds as of-kinds
use Rattle.whole_sheets.proofs.answers.SheetFault.of.Reads as of-reads

module _ (κs : Lfts 0) where
  pub number_any : (a : ArgsD number-contract.signature κs) → number-reads.Asked κs a
  number_any a = tt

  -- two faults of one number are one fault
  pub number_known : (a b : ArgsD number-contract.signature κs) (r : ResD number-contract.signature κs) (e : AtExit (ended_of 0 number-kinds.ps number-kinds.r) κs) → number-reads.Learnt κs a r e → number-reads.Learnt κs b r e → a.0 ≡ b.0
  number_known a b r e h k = fault_claims.known a.0 b.0 (sym h ∙ k)

  pub of_any : (a : ArgsD of-contract.signature κs) → of-reads.Asked κs a
  of_any a = tt

  -- of a number that some fault has, it returns that fault
  pub of_only : (a : ArgsD of-contract.signature κs) (r : ResD of-contract.signature κs) (e : AtExit (ended_of 0 of-kinds.ps of-kinds.r) κs) → of-reads.Learnt κs a r e → (f : SheetFault) → a.0 ≡ fault_number f → r ≡ Some f
  of_only a r e h f k = only_one r f (h ∙ k)
