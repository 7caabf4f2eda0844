-- `fastest_breaker_clearing_ms` meets its contract. Assumes nothing.
use mathlib.Core.Path.{◌≡◌, sym, ap, ◌∙◌}
use mathlib.Core.List.{foldl}
use native.Mathlib.Omega.{arith}
use lib.ListN.{length, take}
use lib.Seq.{take_all}
use borrow.Author.Rules.{rules}
use borrow.Author.Tests.{eq-eqb, ne_eqb}
use Rattle.std.proofs.lemmas.List.{take_min}
use Rattle.lists.proofs.Folds.{fold_more}
use Rattle.lists.proofs.Scanning.{unmapped}
use Rattle.breaker_times.proofs.NeverNan.{never_nan, by_one_test}
use Rattle.breaker_times.specs.Breakers.{faster, largest, fastest_of}
use Rattle.breaker_times.proofs.breakers.fastest_breaker_clearing_ms.Goals as goal

pub returns-then-n-eq0 : goal.returns-then-n-eq0
unfolding fastest_of
returns-then-n-eq0 c = rw (eq-eqb c.args.g.n_breakers 0 (omega (arith, c.of-n.ensures, c.if-n-eq0.true))) c.duration_ms.ensures

pub loop-b-preserved : goal.loop-b-preserved
loop-b-preserved c =
    let bs = take c.of-n.result.value c.args.g.breakers in
    let i = c.loop-b.b-index in
    c.faster_of-fastest.ensures
    ∙ rw (c.breaker_clearing_time_ms.ensures, c.loop-b.invariant) (by_one_test _ (foldl faster largest (take i bs)) (never_nan (take i bs)) ∙ sym (fold_more faster largest _ bs i c.loop-b-test.true))

pub returns : goal.returns
unfolding fastest_of
returns c =
    let g = c.args.g in
    let long : length g.breakers ≡ 32 = search (rules, unmapped) in
    let cut : take c.of-n.result.value g.breakers ≡ take g.n_breakers g.breakers = rw (c.of-n.ensures, ← long) (take_min g.n_breakers g.breakers) in
    rw (ne_eqb g.n_breakers 0 (λ e. omega (arith, e, c.of-n.ensures, c.if-n-eq0.false)))
    (c.loop-b.invariant ∙ ap (foldl faster largest) (take_all c.loop-b.b-index _ c.loop-b-test.false ∙ cut))
