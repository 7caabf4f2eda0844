-- `advance` meets its contract. Assumes nothing.
use Rattle.fault_sweep.proofs.SweepLoop.{Inside}
use Rattle.fault_sweep.proofs.sweep.Sweep.advance.Given as goal

abbrev pub invariant-loop-k : goal.invariant-loop-k
invariant-loop-k l =
    let s = l.fn.self in
    Inside s.grid s.order s.flow s l.allowance l.initial.rows l.n l.cases l.space l.closes l.common l.rows l.k l.made l.c l.fresh l.ends l.steps l.out
