-- `operate` meets its contract. Assumes nothing.
use Rattle.std.proofs.lemmas.List.{get_or-take}
use Rattle.switching_step.proofs.Parts.{over_front}
use lib.ListN.{take, length}
use lib.Seq.{length-take-le}
use mathlib.Core.Bool.{false}
use mathlib.Core.Path.{◌≡◌}
use native.Mathlib.Omega.{arith}
use Rattle.switching_step.proofs.switching.operate.Goals as goal

pub returns-then-switches : goal.returns-then-switches
returns-then-switches c =
    let before = c.args.breakers.now in
    let n = c.args.n.value in
    let long : length (take n before) ≡ n = length-take-le n before (omega arith) in
    rw (c.set_operated.ensures, long, c.if-switches.true)
    (over_front n _ _ false before (omega arith) (λ k l. rw (get_or-take n before k false l)))
