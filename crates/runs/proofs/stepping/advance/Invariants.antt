-- `advance` meets its contract. Assumes nothing.
use Rattle.runs.proofs.Turns.{Inside}
use Rattle.runs.proofs.stepping.advance.Given as goal

abbrev pub invariant-loop-steps : goal.invariant-loop-steps
invariant-loop-steps g l =
    Inside g.R.Run.kind l.initial.run l.allowance l.initial.records l.n l.size l.space l.counts l.run l.records l.steps l.out × g.R.Run.planned l.run l.plan
