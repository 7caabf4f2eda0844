use mathlib.Core.Path.{◌∙◌, ap}
use native.Mathlib.Omega.{arith}
use Rattle.decimals.specs.Decimals.{decimal_column}
use Rattle.listing_text.proofs.Written.{value_more}
use Rattle.listing_text.proofs.lines.put_values.Goals as goal

pub loop-bits-preserved : goal.loop-bits-preserved
loop-bits-preserved c =
    let l = c.loop-bits in (
      omega arith,
      value_more l.out c.args.values.now c.copy_from_slice.new.self l.place l.bits-index (omega arith) (omega arith) (c.copy_from_slice.ensures.after ∙ c.decimal_column-column.ensures ∙ ap decimal_column c.from_bits.ensures) ∙ l.invariant.1,
    )
