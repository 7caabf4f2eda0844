-- `read_sheet` meets its contract. Assumes nothing.
use mathlib.Core.Path.{◌≡◌, ◌∙◌, ap, subst}
use mathlib.Core.List.{foldl}
use Rattle.std.proofs.Common.{IfOk}
use Rattle.whole_sheets.specs.Sheets.{SheetAnswer, contents_of, sheet_answer}
use Rattle.sheet_bytes.specs.Bytes.{byte_taken}
use Rattle.sheet_answers.specs.Answers.{answer_of}
use Rattle.sheet.proofs.Whole.{whole}
use Rattle.sheet.proofs.read.read_sheet.Goals as goal

pub returns : goal.returns
returns c =
    let text = c.args.text.now in
    let is : answer_of c.feed.result ≡ sheet_answer text = ap answer_of (c.feed.ensures ∙ ap (λ r. foldl byte_taken r text) c.start.ensures) ∙ whole text in
    record {
      refusal = c.answer.ensures.refusal ∙ ap (λ (a : SheetAnswer). a.refusal) is;
      contents = subst (λ (a : SheetAnswer). IfOk c.answer.result (λ x. x ≡ contents_of a)) is c.answer.ensures.contents;
    }
