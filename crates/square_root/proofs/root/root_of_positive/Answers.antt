-- `root_of_positive` meets its contract. Assumes nothing.
use native.Mathlib.Omega.{arith}
use borrow.Author.Rules.{rules}
use lib.Ieee.{binary64, to_bits}
use Rattle.float64.proofs.Fields.{no_nan, Read, read, read_pos}
use Rattle.square_root.proofs.RootPlace.{no_nan_pattern, normal_root, low_root}
use Rattle.square_root.proofs.root.root_of_positive.Goals as goal

fields : (c : goal.Start) → Read c.args.x (to_bits binary64 c.args.x)
fields c = read _ (search rules) c.requires

pub float_to_bits-b : goal.float_to_bits-b
float_to_bits-b c = no_nan _ c.requires

pub normalised-requires : goal.normalised-requires
normalised-requires c = (read_pos _ _ c.requires (fields c.before) c.if-e-eq0.true, omega arith)

pub float_from_bits-result : goal.float_from_bits-result
float_from_bits-result c = no_nan_pattern _ _ _ (omega arith) c.root_pattern.ensures

pub overflow_add-scale : goal.overflow_add-scale
overflow_add-scale c = let r = fields c.before in omega arith

pub invariant_of-root_pattern : goal.invariant_of-root_pattern
invariant_of-root_pattern c = let r = fields c.before in record { long = (omega arith, omega arith); in_range = omega arith }

pub float_from_bits-result-else-e-eq0 : goal.float_from_bits-result-else-e-eq0
float_from_bits-result-else-e-eq0 c = let r = fields c.before.before.before in no_nan_pattern _ _ _ (omega arith) c.root_pattern-else-e-eq0.ensures

pub returns-then-e-eq0 : goal.returns-then-e-eq0
returns-then-e-eq0 c =
    let start = c.before.before.before in
    low_root _ _ start.requires (fields start) c.if-e-eq0.true _ _ _ c.normalised.ensures c.root_pattern.ensures

pub returns-else-e-eq0 : goal.returns-else-e-eq0
returns-else-e-eq0 c =
    let start = c.before.before.before in
    normal_root _ _ start.requires (fields start) c.if-e-eq0.false _ c.root_pattern-else-e-eq0.ensures
