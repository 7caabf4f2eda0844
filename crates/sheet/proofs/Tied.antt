-- The claims speak of what the code returns: what a caller learns from the contracts in src/, as Rattle reads their clauses, gives the claim of the result. `read_sheet` asks nothing of its caller.
-- Assumes nothing.
use mathlib.Core.Path.{◌≡◌, sym, ap, subst}
use Rattle.std.proofs.Common.{Ok}
use contract.Lifetimes.{Lfts}
use borrow.Fn.World.{ArgsD, ResD}
use borrow.Fn.Kinds.{ended_of}
use denote.Triple.Clauses.{AtExit}
use Rattle.rules.specs.Studies.{sweep_refusal}
use Rattle.whole_sheets.specs.Sheets.{Refusal, none, contents_of, sheet_answer}
use Rattle.whole_sheets.specs.declared.answers.SheetContents.{SheetContents}
use Rattle.sheet.proofs.Claims.{sheet_claims}
use Rattle.sheet.specs.contracts.read.read_sheet as read-sheet-contract
use Rattle.sheet.proofs.read.read_sheet.Reads as read-sheet-reads
use Rattle.sheet.proofs.read.read_sheet.Kinds as read-sheet-kinds

module _ (κs : Lfts 1) where
  pub read_sheet_any : (a : ArgsD read-sheet-contract.signature κs) → read-sheet-reads.Asked κs a
  read_sheet_any a = tt

-- what read_sheet returns is accepted by the rules 1 to 9
module _ (κs : Lfts 1) (a : ArgsD read-sheet-contract.signature κs) (r : ResD read-sheet-contract.signature κs) (e : AtExit (ended_of 1 read-sheet-kinds.ps read-sheet-kinds.r) κs) where
  pub read_sheet_accepted : read-sheet-reads.Learnt κs a r e → (c : SheetContents) → r ≡ Ok c → sweep_refusal c.grid c.order ≡ 0
  read_sheet_accepted h c z =
      let held : c ≡ contents_of (sheet_answer a.0.now) = rw z at h.1 in
      let shown : none ≡ (sheet_answer a.0.now).refusal = rw z at h.0 in
      subst (λ (x : SheetContents). sweep_refusal x.grid x.order ≡ 0) (sym held) (sheet_claims.accepted a.0.now (sym (ap (λ (x : Refusal). x.number) shown)))
