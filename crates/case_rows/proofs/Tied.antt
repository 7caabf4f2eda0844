-- Nothing is asked of a caller, as Rattle reads the clauses of the contract in src/. Assumes nothing.
use contract.Lifetimes.{Lfts}
use borrow.Fn.World.{ArgsD}
use Rattle.case_rows.specs.contracts.rows.Swept.put_case as put-contract
use Rattle.case_rows.proofs.rows.Swept.put_case.Reads as put_reads

pub put_any : (κs : Lfts 2) (a : ArgsD put-contract.signature κs) → put_reads.Asked κs a
put_any κs a = tt
