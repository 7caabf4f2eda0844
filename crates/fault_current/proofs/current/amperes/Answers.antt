-- `amperes` meets its contract. Assumes nothing.
use Rattle.fault_current.specs.Current.{amperes_by, amperes}
use Rattle.fault_circuit.specs.declared.circuit.Response.{Response}
use mathlib.Core.Path.{sym, ap}
use Rattle.fault_current.proofs.current.amperes.Goals as goal

pub returns-in-Underdamped : goal.returns-in-Underdamped
unfolding amperes_by
returns-in-Underdamped c = rw (c.sin.ensures, c.exp.ensures) (ap (λ (r : Response). amperes r c.args.t) (sym c.in-Underdamped.is))

pub returns-in-Overdamped : goal.returns-in-Overdamped
unfolding amperes_by
returns-in-Overdamped c = rw (c.exp-in-Overdamped-2.ensures, c.exp-in-Overdamped.ensures) (ap (λ (r : Response). amperes r c.args.t) (sym c.in-Overdamped.is))

pub returns-in-Critical : goal.returns-in-Critical
unfolding amperes_by
returns-in-Critical c = rw c.exp-in-Critical.ensures (ap (λ (r : Response). amperes r c.args.t) (sym c.in-Critical.is))

pub returns-in-Still : goal.returns-in-Still
unfolding amperes_by
returns-in-Still c = ap (λ (r : Response). amperes r c.args.t) (sym c.in-Still.is)
