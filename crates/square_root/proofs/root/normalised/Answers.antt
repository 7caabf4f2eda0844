-- `normalised` meets its contract. Assumes nothing.
use native.Mathlib.Omega.{arith}
use Rattle.square_root.proofs.RootNumbers.{shifted}
use Rattle.square_root.proofs.root.normalised.Goals as goal

pub overflow_sub-shift : goal.overflow_sub-shift
overflow_sub-shift c = (shifted c.args.f c.requires.0 c.requires.1).0

pub returns : goal.returns
returns c = (shifted c.args.f c.requires.0 c.requires.1).1

pub invariant_of-result : goal.invariant_of-result
invariant_of-result c = let s = (shifted c.args.f c.requires.0 c.requires.1).1 in record { long = s.long; in_range = omega (arith, s.most) }
