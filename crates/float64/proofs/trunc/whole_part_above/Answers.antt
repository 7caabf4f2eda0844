-- `whole_part_above` meets its contract. Assumes nothing.
use borrow.Author.Rules.{rules}
use Rattle.float64.proofs.Whole.{below_one, no_fraction, fraction_cleared, cleared_no_nan}
use Rattle.float64.proofs.trunc.whole_part_above.Goals as goal

pub returns-then-e-lt1023 : goal.returns-then-e-lt1023
returns-then-e-lt1023 c = below_one _ (search rules) c.requires c.if-e-lt1023.true

pub returns-then-e-ge1075 : goal.returns-then-e-ge1075
returns-then-e-ge1075 c = no_fraction _ (search rules) c.requires c.if-e-ge1075.true

pub float_from_bits-result : goal.float_from_bits-result
float_from_bits-result c =
    let a = c in
    cleared_no_nan _ (search rules) a.requires a.if-e-lt1023.false c.if-e-ge1075.false _ c.without_last.ensures

pub returns : goal.returns
returns c =
    let a = c in
    fraction_cleared _ (search rules) a.requires a.if-e-lt1023.false c.if-e-ge1075.false _ c.without_last.ensures
