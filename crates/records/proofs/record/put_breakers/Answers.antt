-- `put_breakers` meets its contract. Assumes nothing.
use Rattle.std.proofs.lemmas.List.{map-append}
use Rattle.lists.proofs.Stores.{sets_append}
use Rattle.records.specs.Records.{closed_number}
use lib.ListN.{length, get_or, take, length-map}
use lib.Seq.{take-suc, length-take-le}
use native.Mathlib.Numerals.{add-one}
use native.Mathlib.Omega.{arith}
use Prim.Native.Nat.{◌+◌}
use mathlib.Core.Bool.{false}
use mathlib.Core.List.{[], ◌∷◌, ◌++◌, map}
use mathlib.Core.Path.{◌≡◌, ◌∙◌}
use Rattle.records.proofs.record.put_breakers.Goals as goal

pub loop-i-preserved : goal.loop-i-preserved
loop-i-preserved c =
    let i = c.loop-i.i in
    let b = c.args.breakers.now in
    let next : take (i + 1) b ≡ take i b ++ (get_or b i false ∷ []) = rw add-one (take-suc b i false c.loop-i-test.true) in
    let long : length (map closed_number (take i b)) ≡ i = length-map (take i b) closed_number ∙ length-take-le i b (omega arith) in
    let last = closed_number (get_or b i false) ∷ [] in
    rw (next, c.closed_number.ensures, c.loop-i.invariant, map-append closed_number (take i b) (get_or b i false ∷ []), sets_append (map closed_number (take i b)) last c.args.records.now c.args.at, long)
