-- The claim speaks of what the code returns: what `read_sheet` answers to a printed sheet. Assumes nothing.
use mathlib.Core.Path.{◌≡◌, ◌∙◌, ap, subst, sym}
use lib.Ieee.{Float}
use Rattle.std.proofs.Common.{IfOk, IsOkAnd}
use Rattle.std.proofs.lemmas.Result.{IfOk-weaker}
use contract.Lifetimes.{Lfts}
use borrow.Fn.World.{ArgsD, ResD}
use borrow.Fn.Kinds.{ended_of}
use denote.Triple.Clauses.{AtExit}
use Rattle.grid.specs.declared.parts.SweepOrder.{SweepOrder}
use Rattle.grid.specs.declared.simulator.DcSwitchingSimulator.{DcSwitchingSimulator}
use Rattle.rules.specs.Studies.{sweep_refusal}
use Rattle.field_columns.specs.declared.fields.Decimal.{Decimal}
use Rattle.whole_sheets.specs.Sheets.{SheetAnswer, none, printed_of, contents_of, sheet_answer}
use Rattle.whole_sheets.specs.declared.answers.SheetContents.{SheetContents}
use Rattle.whole_sheets.proofs.Printed.{ok_and}
use Rattle.sheet.specs.contracts.read_sheet as read-contract
use Rattle.sheet.proofs.read_sheet.Kinds as read-kinds
use Rattle.sheet.proofs.read_sheet.Reads as read-reads
use Rattle.printed_sheets.specs.Printing.{printed_sheet}
use Rattle.printed_sheets.specs.Claims.{SixPlaces, Made, SameGrid}
use Rattle.printed_sheets.proofs.Claims.{round_trip_claims}

module _ (κs : Lfts 1) (a : ArgsD read-contract.signature κs) (r : ResD read-contract.signature κs) (e : AtExit (ended_of 1 read-kinds.ps read-kinds.r) κs) where
  pub read_sheet_any : read-reads.Asked κs a
  read_sheet_any = tt

  pub read_sheet_back : read-reads.Learnt κs a r e → (spell : Float → Decimal) (g : DcSwitchingSimulator) (o : SweepOrder) → SixPlaces spell g o → Made g → sweep_refusal g o ≡ 0 → a.0.now ≡ printed_sheet spell g o
      → (printed_of r ≡ none) × IsOkAnd r (λ c. (c.order ≡ o) × SameGrid c.grid g)
  read_sheet_back h spell g o p m k text =
      let back = round_trip_claims.round_trip spell g o p m k in
      let is : sheet_answer a.0.now ≡ sheet_answer (printed_sheet spell g o) = ap sheet_answer text in
      let shown : printed_of r ≡ none = h.0 ∙ ap (λ (x : SheetAnswer). x.refusal) is ∙ back.refusal in
      let held : IfOk r (λ c. c ≡ contents_of (sheet_answer (printed_sheet spell g o))) = subst (λ (x : SheetAnswer). IfOk r (λ c. c ≡ contents_of x)) is h.1 in
      (shown, ok_and (λ c. (c.order ≡ o) × SameGrid c.grid g) r shown (IfOk-weaker r (λ c. c ≡ contents_of (sheet_answer (printed_sheet spell g o))) (λ c. (c.order ≡ o) × SameGrid c.grid g) (λ c e. subst (λ (x : SheetContents). (x.order ≡ o) × SameGrid x.grid g) (sym e) (back.order, back.grid)) held))
