use Rattle.std.proofs.Common.{Option}
use Prim.Native.Nat.{ℕ, ◌+◌, ◌<◌}
use mathlib.Core.Path.{◌≡◌, sym, ◌∙◌, ap}
use mathlib.Core.Bool.{false}
use mathlib.Core.List.{List, foldl}
use native.Mathlib.Omega.{arith}
use lib.ListN.{length, take, set, get_or, length-set}
use Rattle.sheet_lines.specs.Lines.{line_of}
use Rattle.sheet_lines.specs.declared.line.SheetLine.{SheetLine}
use Rattle.taken_lines.specs.Taken.{stopped_at, with_line}
use Rattle.taken_lines.specs.declared.taken.Sheet.{Sheet}
use Rattle.sheet_bytes.specs.Bytes.{longest, stopped_in, byte_taken}
use Rattle.sheet_bytes.specs.declared.bytes.Reading.{Reading}
use Rattle.sheet_bytes.proofs.Feeding.{kept_way, line_way, long_way, wrong_stops, fold-stopped, stays, on}
use Rattle.sheet_bytes.proofs.bytes.feed.Goals as goal
use Rattle.sheet_bytes.proofs.bytes.feed.Goals.{then-b-eq-LINE_FEED+else-has_stopped-2, else-b-eq-LINE_FEED}

-- a line that has ended
line_on : (r t : Reading) (piece : List ℕ) (i : ℕ) (s : Sheet) (k : Option SheetLine) → i < length piece → t ≡ foldl byte_taken r (take i piece) → stopped_in t ≡ false → t.length < longest
    → get_or piece i 0 ≡ 10 → k ≡ line_of (take (t.length + 1) (set t.line t.length (get_or piece i 0))) → s ≡ with_line t.sheet k
    → record { sheet = s; line = set t.line t.length (get_or piece i 0); length = 0 } ≡ foldl byte_taken r (take (i + 1) piece)
line_on r t piece i s k h e g l b p q = on r t _ piece i h e (line_way t _ g l b s (q ∙ ap (with_line t.sheet) p))

pub returns-then-has_stopped : goal.returns-then-has_stopped
returns-then-has_stopped c = sym (fold-stopped _ c.args.piece.now (sym c.has_stopped.ensures ∙ c.if-has_stopped.true))

pub returns-then-r-ge-LINE_LENGTH : goal.returns-then-r-ge-LINE_LENGTH
returns-then-r-ge-LINE_LENGTH c =
    let l = c.loop-b in
    let i = l.invariant in
    stays _ _ c.args.piece.now (l.b-index + 1) (on _ _ _ c.args.piece.now l.b-index (omega arith) i.0 (long_way l.r _ i.1 c.if-r-ge-LINE_LENGTH.true _ c.with_line-r.ensures)) (ap stopped_at c.with_line-r.ensures ∙ wrong_stops l.r.sheet i.1)

pub returns-then-has_stopped-2 : goal.returns-then-has_stopped-2
returns-then-has_stopped-2 c =
    let l = c.loop-b in
    let i = l.invariant in
    stays _ _ c.args.piece.now (l.b-index + 1) (line_on _ l.r _ l.b-index _ _ (omega arith) i.0 i.1 c.if-r-ge-LINE_LENGTH.false c.if-b-eq-LINE_FEED.true c.line_of.ensures c.with_line-r-then-b-eq-LINE_FEED.ensures) (sym c.has_stopped-then-b-eq-LINE_FEED.ensures ∙ c.if-has_stopped-2.true)

pub loop-b-preserved : goal.loop-b-preserved
loop-b-preserved c =
    let l = c.loop-b in
    let i = l.invariant in
    elim c.if-b-eq-LINE_FEED.branch [
      | then-b-eq-LINE_FEED+else-has_stopped-2 w ↦
          (w.r-is ∙ line_on _ l.r _ l.b-index _ _ (omega arith) i.0 i.1 c.if-r-ge-LINE_LENGTH.false w.if-b-eq-LINE_FEED.true w.line_of.ensures w.with_line-r-then-b-eq-LINE_FEED.ensures, ap (λ (r : Reading). stopped_at r.sheet) w.r-is ∙ sym w.has_stopped-then-b-eq-LINE_FEED.ensures ∙ w.if-has_stopped-2.false, ap (λ (r : Reading). length r.line) w.r-is ∙ length-set l.r.line l.r.length _ ∙ i.2)
      | else-b-eq-LINE_FEED w ↦
          (w.r-is ∙ on _ _ _ c.args.piece.now l.b-index (omega arith) i.0 (kept_way l.r _ i.1 c.if-r-ge-LINE_LENGTH.false w.if-b-eq-LINE_FEED.false), ap (λ (r : Reading). stopped_at r.sheet) w.r-is ∙ i.1, ap (λ (r : Reading). length r.line) w.r-is ∙ length-set l.r.line l.r.length _ ∙ i.2)
    ]
