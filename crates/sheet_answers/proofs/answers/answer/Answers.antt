-- `answer` meets its contract. Assumes nothing.
use Rattle.sheet_answers.proofs.Answered.{refusal_way, contents_way}
use Rattle.std.proofs.lemmas.Result.{err_from_is_err_and}
use Rattle.sheet_answers.proofs.answers.answer.Goals as goal

pub returns-in_err-check_sheet-clause-refusal : goal.returns-in_err-check_sheet-clause-refusal
returns-in_err-check_sheet-clause-refusal c =
    let p = err_from_is_err_and c.from_residual.result c.from_residual.ensures.1 in
    rw (p.1, p.2) (refusal_way _ _ c.ended-sheet.ensures _ c.in_err-check_sheet.ensures)

pub returns-clause-refusal : goal.returns-clause-refusal
returns-clause-refusal c = refusal_way _ _ c.ended-sheet.ensures _ c.in_ok-check_sheet.ensures

pub returns-clause-contents : goal.returns-clause-contents
returns-clause-contents c = contents_way _ _ c.ended-sheet.ensures c.in_ok-check_sheet.ensures
