use Prim.Native.Nat.{◌+◌, ◌-◌, ◌/◌}
use mathlib.Core.Path.{◌≡◌, ◌∙◌, ap}
use native.Mathlib.Omega.{arith}
use lib.ListN.{set}
use lib.Seq.{sets}
use borrow.Author.Rules.{rules}
use Rattle.printed_numbers.specs.Glyphs.{glyph_of}
use Rattle.printed_numbers.proofs.Cells.{cells, cells_step}
use Rattle.printed_numbers.proofs.Justified.{stored}
use Rattle.printed_numbers.proofs.printed.put_digits.Goals as goal

pub loop-j-preserved : goal.loop-j-preserved
loop-j-preserved c =
    let l = c.loop-j in
    let e : l.j - 1 ≡ 0 + (l.j - 1) = omega arith in
    ap (λ g. sets (set l.columns (l.j - 1) g) 0 (cells (l.j - 1) (l.rest / 10))) c.glyph.ensures
    ∙ ap (λ i. sets (set l.columns i (glyph_of l.rest)) 0 (cells (l.j - 1) (l.rest / 10))) e
    ∙ cells_step l.columns 0 l.j l.rest (omega arith)
    ∙ l.invariant

pub returns : goal.returns
returns c =
    let e : c.loop-j.j ≡ 0 = omega arith in
    (rw e at c.loop-j.invariant) ∙ stored c.args.columns.now c.args.n (search rules) (omega arith)
