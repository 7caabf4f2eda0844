-- `decimal_column` meets its contract. Assumes nothing.
use mathlib.Core.Path.{sym, ap, ◌∙◌}
use Prim.Native.Nat.{ℕ, ◌^◌}
use lib.Dec.{leb}
use borrow.Author.Rules.{rules}
use Rattle.decimals.specs.Decimals.{fitted, six_places}
use Rattle.decimals.proofs.Values.{column_of_bits}
use Rattle.decimals.proofs.column.decimal_column.Goals as goal

pub returns : goal.returns
returns c =
    c.column_of.ensures ∙ ap (λ (q : ℕ). fitted (six_places (leb (2 ^ 63) c.to_bits-bits.result) q)) c.millionths.ensures
    ∙ sym (column_of_bits c.args.x c.to_bits-bits.result (search rules) c.to_bits-bits.ensures)
