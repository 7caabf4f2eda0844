-- The round trip of specs/Claims. Assumes nothing.
use Prim.Native.Nat.{◌≤◌}
use mathlib.Core.Path.{◌≡◌, sym, ◌∙◌, ap, subst}
use native.Mathlib.Omega.{arith}
use lib.ListN.{length}
use lib.Seq.{length-take-le}
use lib.Ieee.{Float}
use Rattle.grid.specs.Simulator.{stations_of, cables_of, breakers_of}
use Rattle.grid.specs.declared.parts.SweepOrder.{SweepOrder}
use Rattle.grid.specs.declared.simulator.DcSwitchingSimulator.{DcSwitchingSimulator}
use Rattle.rules.specs.Studies.{sweep_refusal}
use Rattle.rule_claims.specs.Claims.{Sizes}
use Rattle.rule_claims.proofs.Sizes.{size_claims}
use Rattle.field_columns.specs.declared.fields.Decimal.{Decimal}
use Rattle.whole_sheets.specs.Sheets.{SheetAnswer, none, order_in, grid_in, refusal_of, answered, sheet_answer}
use Rattle.printed_sheets.specs.Printing.{printed_sheet}
use Rattle.printed_sheets.specs.Claims.{SixPlaces, Made, SameGrid, ReadsBack, RoundTripClaims}
use Rattle.printed_sheets.proofs.Read.{sheet_lines, read_as, lines_few}
use Rattle.printed_sheets.proofs.Contents.{lines_in_order, lines_hold, order_held, same_grid, whole_grid}
use Rattle.printed_sheets.proofs.Accepted.{stations_ok, cables_ok, breakers_ok, order_ok_lem, answered_with, good_stations, good_cables, good_breakers}

module _ (spell : Float → Decimal) (g : DcSwitchingSimulator) (o : SweepOrder) (p : SixPlaces spell g o) (made : Made g) (h : sweep_refusal g o ≡ 0) where
  sizes : Sizes g
  sizes = size_claims.sweep g o h

  few_lines : length (sheet_lines g o) ≤ 130
  few_lines =
      let s = sizes in
      let ns : length (stations_of g) ≡ g.n_stations = length-take-le g.n_stations g.stations (let e = made.stations in let l = s.stations in omega arith) in
      let nc : length (cables_of g) ≡ g.n_cables = length-take-le g.n_cables g.cables (let e = made.cables in let l = s.cables in omega arith) in
      let nb : length (breakers_of g) ≡ g.n_breakers = length-take-le g.n_breakers g.breakers (let e = made.breakers in let l = s.breakers in omega arith) in
      lines_few g o (let l = s.stations in omega arith) (let l = s.cables in omega arith) (let l = s.breakers in omega arith)

  same : SameGrid (grid_in (sheet_lines g o)) g
  same = same_grid (sheet_lines g o) g (lines_hold g o) made sizes.stations sizes.cables sizes.breakers

  answer_is : sheet_answer (printed_sheet spell g o) ≡ record { refusal = none; grid = grid_in (sheet_lines g o); order = order_in (sheet_lines g o) }
  unfolding sheet_answer
  answer_is =
      ap (λ ls. answered (refusal_of ls) (grid_in ls) (order_in ls)) (read_as spell g o p (order_ok_lem g o h) (stations_ok g o h) (cables_ok g o h) (breakers_ok g o h) few_lines)
      ∙ answered_with (sheet_lines g o) g o same (order_held g o) (good_stations g o h) (good_cables g o h) (good_breakers g o h) h (lines_in_order g o)

  reads_back : ReadsBack spell g o
  reads_back =
      record {
        refusal = ap (λ (a : SheetAnswer). a.refusal) answer_is;
        order = ap (λ (a : SheetAnswer). a.order) answer_is ∙ order_held g o;
        grid = subst (λ x. SameGrid x g) (sym (ap (λ (a : SheetAnswer). a.grid) answer_is)) same;
        whole_grid = λ b. ap (λ (a : SheetAnswer). a.grid) answer_is ∙ whole_grid (sheet_lines g o) g (lines_hold g o) made sizes.stations sizes.cables sizes.breakers b;
      }

pub round_trip_claims : RoundTripClaims
round_trip_claims = record { round_trip = reads_back }
