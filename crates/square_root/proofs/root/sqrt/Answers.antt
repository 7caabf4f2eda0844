-- `sqrt` meets its contract, test by test. Assumes nothing.
use borrow.Author.Rules.{rules}
use Rattle.square_root.proofs.RootCases.{of_nan, of_negative, of_zero, of_infinity, rest}
use Rattle.float64.proofs.Tests.{no_nan}
use Rattle.square_root.proofs.root.sqrt.Goals as goal

pub returns-then-x : goal.returns-then-x
returns-then-x c = of_nan _ c.if-x.true

pub returns-then-x-2 : goal.returns-then-x-2
returns-then-x-2 c = of_negative _ c.if-x-2.true

pub returns-then-x-3 : goal.returns-then-x-3
returns-then-x-3 c = of_zero _ c.if-x-3.true

pub float_to_bits-x : goal.float_to_bits-x
float_to_bits-x c = no_nan _ c.if-x.false

pub returns-then-x-eq9218868437227405312 : goal.returns-then-x-eq9218868437227405312
returns-then-x-eq9218868437227405312 c = of_infinity _ (search rules) c.if-x-eq9218868437227405312.true

pub root_of_positive-requires : goal.root_of_positive-requires
root_of_positive-requires c =
    rest _ c.if-x.false c.if-x-2.false c.if-x-3.false c.if-x-eq9218868437227405312.false
