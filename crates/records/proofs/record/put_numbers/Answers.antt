-- `put_numbers` meets its contract. Assumes nothing.
use Rattle.std.proofs.lemmas.List.Edits.{sets-eq}
use lib.ListN.{length, take, drop}
use lib.Seq.{drop-drop}
use lib.Ieee.{Float}
use native.Mathlib.Omega.{arith}
use Prim.Native.Nat.{◌+◌, ◌-◌}
use mathlib.Core.List.{List, ◌++◌, append_assoc}
use mathlib.Core.Path.{◌≡◌, sym, ap, ◌∙◌}
use Rattle.records.proofs.record.put_numbers.Goals as goal

pub returns : goal.returns
returns c =
    let before = c.args.records.now in
    let xs = c.args.numbers.now in
    let n = length xs in
    let e : c.args.at + n - c.args.at ≡ n = omega arith in
    rw (e, c.copy_from_slice.ensures.after) (ap (λ (rest : List Float). take c.args.at before ++ (xs ++ rest)) (drop-drop n c.args.at before) ∙ sym (append_assoc (take c.args.at before) xs (drop (c.args.at + n) before)) ∙ sym (sets-eq xs before c.args.at c.requires))
