-- `fault_window` meets its contract. Assumes nothing.
use Prim.Native.Nat.{◌-◌}
use mathlib.Core.Bool.{true, false}
use mathlib.Core.Path.{◌≡◌, ◌∙◌}
use borrow.Author.Rules.{rules}
use native.Mathlib.Omega.{arith}
use Rattle.std.proofs.lemmas.Iterator.{first_from_Range}
use Rattle.fault_window.proofs.Turns.{Sought, sought, cleared, lasting}
use Rattle.fault_window.specs.Window.{until, active_in, clears_in}
use Rattle.fault_window.proofs.steps.fault_window.Goals as goal
use Rattle.fault_window.proofs.steps.fault_window.Goals.{After-find}

begins : (c : After-find) → c.unwrap_or-from.result ≡ until (active_in c.args.times.dt_ms c.args.times.inception_ms c.args.active) c.args.first (c.args.end - c.args.first)
begins c =
    let f = active_in c.args.times.dt_ms c.args.times.inception_ms c.args.active in
    let h : Sought f c.args.first c.args.end c.find-begins.result = first_from_Range _ _ _ _ (λ i. f i ≡ true) (λ i. f i ≡ false) c.find-begins.ensures.ran (λ x q k. search rules) (λ x q k. (search rules, search rules)) in
    c.unwrap_or-from.ensures ∙ rw c.max.ensures (sought f c.args.first c.args.end c.find-begins.result h)

clears : (c : After-find) → Sought (clears_in c.args.times.dt_ms c.args.times.inception_ms c.args.times.clear_ms) c.unwrap_or-from.result c.args.end c.find.result
clears c =
    let f = clears_in c.args.times.dt_ms c.args.times.inception_ms c.args.times.clear_ms in
    first_from_Range _ _ _ _ (λ i. f i ≡ true) (λ i. f i ≡ false) c.find.ensures.ran (λ x q k. search rules) (λ x q k. (search rules, search rules))

pub overflow_add-result : goal.overflow_add-result
overflow_add-result c = let h = clears ((goal.at.overflow_add-result c).After-find) in let found = rw c.in-Some.is at h in omega (arith, found.1)

pub returns-in-Some : goal.returns-in-Some
returns-in-Some c =
    let a = c.args in
    let h = clears ((goal.at.returns-in-Some c).After-find) in
    cleared a.times.dt_ms a.times.inception_ms a.times.clear_ms a.active a.first a.end (begins ((goal.at.returns-in-Some c).After-find)) c.in-Some.last (rw c.in-Some.is at h)

pub returns-in-None : goal.returns-in-None
returns-in-None c =
    let a = c.args in
    let h = clears ((goal.at.returns-in-None c).After-find) in
    lasting a.times.dt_ms a.times.inception_ms a.times.clear_ms a.active a.first a.end (begins ((goal.at.returns-in-None c).After-find)) (rw c.in-None.is at h)
