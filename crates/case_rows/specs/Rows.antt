-- What the row of a case needs beside its outcome. Definitions only.
use Rattle.std.specs.Prelude.{ℕ, ◌+◌, ◌*◌, Bool, List, leb, length, get_or, Float}
use Rattle.std.proofs.Math.Option.{Option}
use Rattle.float64.specs.Constants.{nought}
use Rattle.power_flow.specs.declared.flow.DcGridSolution.{DcGridSolution}
use Rattle.case_reasons.specs.declared.reasons.CaseOutcome.{CaseOutcome}
use Rattle.case_listing.specs.Listing.{row_for}
use Rattle.case_rows.specs.declared.rows.Swept.{Swept}

-- the flow's loss in a cable
abbrev pub loss_in : DcGridSolution → ℕ → Float
loss_in flow cable = get_or flow.cable_losses_mw cable nought

-- a whole row fits behind so many rows
abbrev pub room_behind : ℕ → List ℕ → Bool
room_behind out rows = leb (8 * out + 8) (length rows)

-- the row of case k with an outcome, if it has one
abbrev pub row_in : Swept → ℕ → CaseOutcome → Option (List ℕ)
row_in s = row_for s.grid s.order s.flow
