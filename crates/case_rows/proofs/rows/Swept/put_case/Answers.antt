-- `put_case` meets its contract. Assumes nothing.
use Rattle.std.proofs.Common.{◌+◌, ◌*◌, ◌<◌, ◌≤◌, length, refl, ap, ◌∙◌, arith, le-leb}
use borrow.Author.Tests.{lt-leb}
use lib.Seq.{sets}
use Rattle.fault_cases.specs.Cases.{place_of}
use Rattle.case_listing.specs.Listing.{row_for}
use Rattle.case_rows.specs.Rows.{loss_in}
use Rattle.case_rows.proofs.Written.{row_count, row_numbers}
use Rattle.case_rows.proofs.rows.Swept.put_case.Goals as goal

pub returns-then-rows-out : goal.returns-then-rows-out
returns-then-rows-out c =
    let short : length c.args.rows.now < 8 * c.args.out + 8 = omega (arith, c.if-rows-out.true) in
    rw (lt-leb (8 * c.args.out + 8) (length c.args.rows.now) short) record { answer = refl; memory = refl }

pub returns : goal.returns
unfolding row_for
returns c =
    let q = c.put_row.ensures in
    let s = c.args.self.now in
    let place = place_of s.order c.args.k in
    let room : 8 * c.args.out + 8 ≤ length c.args.rows.now = omega (arith, c.if-rows-out.false) in
    rw (le-leb (8 * c.args.out + 8) (length c.args.rows.now) room)
    record {
      answer =
          q.answer
          ∙ rw (c.reasons_in.ensures, c.case_place-place.ensures)
          (row_count place _ c.args.outcome (loss_in s.flow place.cable) (8 * c.args.out) (length c.args.rows.now) room);
      memory =
          q.memory
          ∙ rw (c.loss_of.ensures, c.reasons_in.ensures, c.case_place-place.ensures)
          (ap (sets c.args.rows.now (8 * c.args.out)) (row_numbers place _ c.args.outcome (loss_in s.flow place.cable) (8 * c.args.out) (length c.args.rows.now) room));
    }
