-- A row that fits is written, if the case has one. Assumes nothing.
use Prim.Native.Nat.{ℕ, ◌+◌, ◌≤◌}
use mathlib.Core.Path.{◌≡◌}
use mathlib.Core.Bool.{cond}
use mathlib.Core.List.{[]}
use lib.Dec.{eqb}
use lib.ListN.{length}
use lib.Ieee.{Float}
use borrow.Author.Tests.{le-leb}
use Rattle.lists.proofs.Counting.{by-test}
use Rattle.portions.specs.Stopping.{joined}
use Rattle.portions.specs.Cases.{to_list}
use Rattle.fault_cases.specs.declared.cases.CasePlace.{CasePlace}
use Rattle.case_reasons.specs.declared.reasons.CaseOutcome.{CaseOutcome}
use Rattle.case_reasons.specs.Reasons.{numbers_of, row_of, writes_row}

module _ (p : CasePlace) (reasons : ℕ) (x : CaseOutcome) (loss : Float) (at len : ℕ) (h : at + 8 ≤ len) where
  pub row_count : cond (writes_row reasons at len) 1 0 ≡ length (to_list (row_of p reasons x loss))
  unfolding row_of
  row_count = by-test (eqb reasons 0) (λ e. rw e) (λ e. rw (e, le-leb (at + 8) len h))

  pub row_numbers : cond (writes_row reasons at len) (numbers_of p reasons x loss) [] ≡ joined (to_list (row_of p reasons x loss))
  unfolding row_of joined
  row_numbers = by-test (eqb reasons 0) (λ e. rw e) (λ e. rw (e, le-leb (at + 8) len h))
